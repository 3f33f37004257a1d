-- The names that the proofs of this crate cite most, passed on from one place. It declares nothing.
pub use Rattle.job_pool.specs.Home.{AreAnswersOf, IsAnswerOf, IsHome, terms_of}
pub use Rattle.job_pool.specs.declared.answer_rule.Terms.{Terms}
pub use Rattle.job_queue.proofs.Shared.Once.{floor_push}
pub use Rattle.job_queue.specs.Ends.{IsOffered, Taking}
pub use Rattle.job_queue.specs.Slips.{floor_of, slip_of}
pub use Rattle.job_queue.specs.declared.rule.Slip.{Slip}
pub use Rattle.revision_jobs.specs.Entries.{IsOf}
pub use Rattle.revision_jobs.specs.Posted.{IsOwnAnswer, IsSent, PostHistory}
pub use Rattle.revision_jobs.specs.declared.entries.Entries.{Entries}
pub use Rattle.std.proofs.Common.{All, IfSome, List, None, Option, Some, [], ap, arith, length, refl, set, slice_index_or, subst, suc, sym, true≢false, vec_len, zero, ℕ, ⊎_elim, ◌++◌, ◌+◌, ◌<◌, ◌∙◌, ◌∷◌, ◌≡◌, ◌≢◌, ◌≤◌}
