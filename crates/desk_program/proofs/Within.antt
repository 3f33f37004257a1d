-- What a run leaves of devices that stand within those which give hints.
use Rattle.std.proofs.Common.{◌≡◌, ℕ, Bool, List, Option, ap, subst, sym}
use Rattle.desk_program.specs.declared.ending.Ending.{Ending}
use Rattle.desk_program.specs.declared.typed.reader.TypedReader.{TypedReader}
use Rattle.desk_program.specs.declared.typed.writer.TypedWriter.{TypedWriter}
use Rattle.desk_program.specs.Start.{Answers}

within : {R W H : Type 0} (prompt : Bool) (remaining : R → Option (List ℕ)) (contents : W → Option (List ℕ))
    (r : TypedReader R H) (w : TypedWriter W H) (ending : Ending) (s : TypedReader R H) (x : TypedWriter W H)
    → Answers prompt (λ (q : TypedReader R H). remaining q.inner) (λ (v : TypedWriter W H). contents v.inner)
    r w ending s x
    → Answers prompt remaining contents r.inner w.inner ending s.inner x.inner
within {R = R} {W = W} {H = H} prompt remaining contents r w ending s x h =
    let reader : TypedReader R H → R = λ q. q.inner in
    let writer : TypedWriter W H → W = λ v. v.inner in
    record {
      ran = h.ran;
      done = h.done;
      read = h.read;
      write = h.write;
      memory = λ e. (ap reader (h.memory e).0, ap writer (h.memory e).1);
      worker = λ e. (ap reader (h.worker e).0, ap writer (h.worker e).1);
    }

pub answers_within : {R W H : Type 0} (prompt : Bool) (remaining : R → Option (List ℕ))
    (contents : W → Option (List ℕ)) (r : TypedReader R H) (w : TypedWriter W H) (ending : Ending)
    (s : TypedReader R H) (x : TypedWriter W H) (q : R) (v : W) (t : R) (y : W)
    → r.inner ≡ q → w.inner ≡ v → t ≡ s.inner → y ≡ x.inner
    → Answers prompt (λ (p : TypedReader R H). remaining p.inner) (λ (o : TypedWriter W H). contents o.inner)
    r w ending s x
    → Answers prompt remaining contents q v ending t y
answers_within prompt remaining contents r w ending s x q v t y first second third fourth h =
    subst (λ a. Answers prompt remaining contents a v ending t y) first
    (subst (λ a. Answers prompt remaining contents r.inner a ending t y) second
    (subst (λ a. Answers prompt remaining contents r.inner w.inner ending a y) (sym third)
    (subst (λ a. Answers prompt remaining contents r.inner w.inner ending s.inner a) (sym fourth)
    (within prompt remaining contents r w ending s x h))))
