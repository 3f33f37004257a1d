-- How a way ends that found no result, or one.
use Rattle.std.proofs.Common.{Err, IsErrAnd, Ok, Result, ap, ℕ, ◌∙◌, ◌≡◌, ◌≢◌}
use Rattle.worlds.specs.Stop.{CountsStop}
use Rattle.square_table.specs.declared.fault.TableFault.{TableFault}
use Rattle.square_table.specs.declared.fault.TableFault.TheVariants as table
use Rattle.hash_engine.specs.declared.fault.ResultFault.{ResultFault}
use Rattle.hash_engine.specs.declared.fault.ResultFault.TheVariants as results
use Rattle.step_engine.specs.Evolved.{of_result, of_table}
use Rattle.step_engine.specs.declared.evolved.EvolveFault.{EvolveFault}
use Rattle.step_engine.specs.declared.evolved.EvolveFault.TheVariants.{NoMemory, NoRoom, Stopped}

not_stopped : (fault : TableFault) → of_table fault ≢ Stopped
not_stopped table.NoRoom is = absurd cc
not_stopped table.NoMemory is = absurd cc

is_stopped : (fault : ResultFault) → of_result fault ≡ Stopped → fault ≡ results.Stopped
is_stopped (results.Table inner) is = absurd (not_stopped inner is)
is_stopped results.Stopped is = cc

no_room-of_table : (fault : TableFault) → of_table fault ≡ NoRoom → fault ≡ table.NoRoom
no_room-of_table table.NoRoom is = cc
no_room-of_table table.NoMemory is = absurd cc

no_room-of_result : (fault : ResultFault) → of_result fault ≡ NoRoom → fault ≡ results.Table table.NoRoom
no_room-of_result (results.Table inner) is = ap (λ f. results.Table f) (no_room-of_table inner is)
no_room-of_result results.Stopped is = absurd cc

refused : {A : Type 0} (r : Result A EvolveFault) (given fault : EvolveFault) → IsErrAnd r (λ f. f ≡ given) → r ≡ Err fault → given ≡ fault
refused (Ok later) given fault is e = absurd is
refused (Err f) given fault is e = cc

stopped : {A B : Type 0} {found : Result B ResultFault} (r : Result A EvolveFault) (fault : ResultFault) → IsErrAnd r (λ f. f ≡ of_result fault) → found ≡ Err fault → found ≡ Err results.Stopped → r ≡ Err Stopped
stopped (Ok later) fault is was e = absurd is
stopped (Err f) fault is was e = let same : fault ≡ results.Stopped = cc in ap (λ f. Err f) (is ∙ ap (λ f. of_result f) same)

-- which refusal of a table, and of a search, says that there is no room
module _ {A : Type 0} (r : Result A EvolveFault) where
  pub full-table : (fault : TableFault) → IsErrAnd r (λ f. f ≡ of_table fault) → r ≡ Err NoRoom → fault ≡ table.NoRoom
  full-table fault is e = no_room-of_table fault (refused r (of_table fault) NoRoom is e)

  pub full-search : (fault : ResultFault) → IsErrAnd r (λ f. f ≡ of_result fault) → r ≡ Err NoRoom → fault ≡ results.Table table.NoRoom
  full-search fault is e = no_room-of_result fault (refused r (of_result fault) NoRoom is e)

  pub no_room-memory : IsErrAnd r (λ f. f ≡ NoMemory) → r ≢ Err NoRoom
  no_room-memory is e = let given = refused r NoMemory NoRoom is e in absurd cc

-- what a stop counts where there is a result
pub went_on : {B F : Type 0} {fault : F} {b : B} {found : Result B F} {before after : ℕ} → found ≡ Ok b → CountsStop found (Err fault) before after → after ≡ before
went_on is counts = counts.went_on (λ e. absurd cc)

module _ {A : Type 0} {before after : ℕ} where
  pub CountsStop-ok : (later : A) → after ≡ before → CountsStop (Ok later) (Err Stopped) before after
  CountsStop-ok later same = record { stopped = λ e. absurd cc; went_on = λ _. same }

  -- where a growth was refused
  pub CountsStop-memory : (r : Result A EvolveFault) → IsErrAnd r (λ f. f ≡ NoMemory) → after ≡ before → CountsStop r (Err Stopped) before after
  CountsStop-memory r is same = record { stopped = λ e. let given = refused r NoMemory Stopped is e in absurd cc; went_on = λ _. same }

  -- where a table of squares refused
  pub CountsStop-table : (r : Result A EvolveFault) (fault : TableFault) → IsErrAnd r (λ f. f ≡ of_table fault) → after ≡ before → CountsStop r (Err Stopped) before after
  CountsStop-table r fault is same = record { stopped = λ e. absurd (not_stopped fault (refused r (of_table fault) Stopped is e)); went_on = λ _. same }

  -- where a search found none
  pub CountsStop-search : {B : Type 0} {found : Result B ResultFault} (r : Result A EvolveFault) (fault : ResultFault) → IsErrAnd r (λ f. f ≡ of_result fault) → found ≡ Err fault
      → CountsStop found (Err results.Stopped) before after → CountsStop r (Err Stopped) before after
  CountsStop-search {found = found} r fault is was counts = record {
    stopped = λ e. counts.stopped (was ∙ ap (λ f. Err f) (is_stopped fault (refused r (of_result fault) Stopped is e)));
    went_on = λ not. counts.went_on (λ e. not (stopped r fault is was e));
  }
