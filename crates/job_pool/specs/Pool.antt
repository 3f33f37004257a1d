-- What contracts see of a pool's post.
use Rattle.std.specs.Prelude.{◌≡◌, ℕ, List, [], length, All, None, false}
use Rattle.std.specs.Fn.{Once}
use Rattle.std.specs.Borrow.{MutBor}
use Rattle.revision_jobs.specs.declared.entries.Entries.{Entries}
use Rattle.revision_jobs.specs.Posted.{PostHistory, PostView, no_history}
use Rattle.job_queue.specs.declared.rule.Slip.{Slip}
use Rattle.job_queue.specs.Slips.{floor_of}
use Rattle.job_pool.specs.declared.answer_rule.Terms.{Terms}
use Rattle.job_pool.specs.Home.{terms_of}
use Rattle.job_pool.specs.Lanes.{Outgoing}

-- its table, how many squares a step may keep, the slips of the jobs that it took, and its history
pub record Pool : Type 0 where
  pub table : Entries
  pub limit : ℕ
  pub sent : List Slip
  pub history : PostHistory

-- as a post: its floor is one more than the last number that it took, and it isn't prompt
abbrev pub pool_view : Pool → PostView
pool_view pool = record {
  table = pool.table;
  limit = pool.limit;
  floor = floor_of pool.sent;
  answers = pool.history.answers;
  is_prompt = false;
  held = None;
  asked = pool.history.asked;
  stops = pool.history.stops;
  is_over = pool.history.is_over;
}

-- a post over this sender, at this limit, that wasn't asked yet
abbrev pub pool_over : Outgoing → ℕ → Pool
pool_over jobs limit =
    record { table = jobs.table; limit = limit; sent = jobs.sent; history = no_history }

-- a post of the table, at this limit, that took no job and wasn't asked yet
abbrev pub new_pool : Entries → ℕ → Pool
new_pool entries limit =
    record { table = entries; limit = limit; sent = []; history = no_history }

-- the ends for so many workers: each takes jobs of the table, and sends answers of it at the limit
pub record AreEnds (table : Entries) (limit workers : ℕ) (inboxes : List Entries)
    (senders : List Terms) : Type 0 where
  pub inboxes_many : length inboxes ≡ workers
  pub inboxes_own : All (λ inbox. inbox ≡ table) inboxes
  pub senders_many : length senders ≡ workers
  pub senders_own : All (λ sender. sender ≡ terms_of table limit) senders

-- the body may be called once, on the post and the input
abbrev pub CallTakes : {F I T : Type 0}
    → Once F (MutBor Pool × (I × Unit {0})) (T × (MutBor Pool × Unit {0}))
    → F → Pool → I → Type 0
CallTakes call body post input = (p : MutBor Pool) → p.now ≡ post → call.pre body (p, (input, tt))

-- the body, called once on the post and the input, answers this
pub record CallGives {F I T : Type 0}
    (call : Once F (MutBor Pool × (I × Unit {0})) (T × (MutBor Pool × Unit {0})))
    (body : F) (post : Pool) (input : I) (answer : T) : Type 0 where
  pub shown : MutBor Pool
  pub shows : shown.now ≡ post
  pub left : MutBor Pool
  pub met : call.post body (shown, (input, tt)) (answer, (left, tt))
