-- How a search ends.
use Rattle.std.proofs.Common.{Bool, Err, IsErrAnd, Ok, Result, ap, arith, false, if◌then◌else◌, ℕ, ◌+◌, ◌∙◌, ◌≡◌}
use Rattle.hash_engine.proofs.Names.{Table}
use Rattle.square_table.specs.Made.{IsFull}
use Rattle.square_table.specs.declared.fault.TableFault.{TableFault}
use Rattle.hash_engine.specs.Found.{IsEnd}
use Rattle.hash_engine.specs.declared.fault.ResultFault.{ResultFault}

-- it wasn't stopped
pub went_on : {A : Type 0} {table : Table} {yes new : ℕ} {x : A} → IsEnd table yes new (Ok x) → new ≡ yes
went_on end = end.stop.went_on (λ is. cc)

pub not_yet : {n m : ℕ} {b : Bool} → m ≡ n + (if b then 1 else 0) → b ≡ false → m ≡ n
not_yet counts is_false = grind (arith, counts, is_false)

-- it ends with what it found, by a fault of the table's, or as what it called did
pub End-found : {A : Type 0} {table : Table} {yes new : ℕ} (x : A) → new ≡ yes → IsEnd table yes new (Ok x)
End-found x same = record { stop = record { stopped = λ is. absurd cc; went_on = λ other. same }; full = λ is. absurd cc }

pub End-fault : {A B : Type 0} {table : Table} {yes new : ℕ} (r : Result A TableFault) (e : Result B ResultFault) (f : TableFault) → r ≡ Err f →
    IsErrAnd e (λ h. h ≡ ResultFault.Table f) → (r ≡ Err TableFault.NoRoom → IsFull table) → new ≡ yes → IsEnd table yes new e
End-fault r (Ok x) f at is full same = absurd is
End-fault r (Err h) f at is full same =
    record { stop = record { stopped = λ stop. absurd cc; went_on = λ other. same }; full = λ none. full (let is_none : f ≡ TableFault.NoRoom = cc in at ∙ ap Err is_none) }

pub End-same : {A B : Type 0} {table : Table} {yes mid new : ℕ} (r : Result A ResultFault) (e : Result B ResultFault) (f : ResultFault) → r ≡ Err f →
    IsErrAnd e (λ h. h ≡ f) → IsEnd table mid new r → mid ≡ yes → IsEnd table yes new e
End-same r (Ok x) f at is end same = absurd is
End-same r (Err h) f at is end same = record {
  stop = record {
    stopped = λ stop. end.stop.stopped (let is_stop : f ≡ ResultFault.Stopped = cc in at ∙ ap Err is_stop) ∙ ap (λ n. n + 1) same;
    went_on = λ other. end.stop.went_on (λ stop. other (let is_stop : f ≡ ResultFault.Stopped = cc in ap Err (is ∙ is_stop))) ∙ same;
  };
  full = λ none. end.full (let is_none : f ≡ ResultFault.Table TableFault.NoRoom = cc in at ∙ ap Err is_none);
}

-- or as memory ran out
pub End-memory : {B : Type 0} {table : Table} {yes new : ℕ} (e : Result B ResultFault) → IsErrAnd e (λ h. h ≡ ResultFault.Table TableFault.NoMemory) →
    new ≡ yes → IsEnd table yes new e
End-memory (Ok x) is same = absurd is
End-memory (Err h) is same = record { stop = record { stopped = λ stop. absurd cc; went_on = λ other. same }; full = λ none. absurd cc }
