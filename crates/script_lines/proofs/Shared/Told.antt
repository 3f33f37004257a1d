-- Bytes that are written piece by piece.
use Rattle.script_lines.proofs.Names.{Appends, Err, IsErr, Keeps, List, Ok, Option, Result, ap, append_assoc, drop, false, is_err, sym, take, take-append-drop, true, ℕ, ◌++◌, ◌∙◌, ◌≡◌}
use Rattle.script_lines.specs.Faults.{AppendsFront, Wrote}
use Rattle.std.proofs.KnownBytes.{Appends-trans as appends_appends, Appends-kept as appends_keeps}

-- all of bs but rest was written
pub record IsUnderWay (old new : Option (List ℕ)) (bs rest : List ℕ) : Type 0 where
  pub written : List ℕ
  pub split : bs ≡ written ++ rest
  pub grew : Appends old new written

pub goes_on : (a b c : Option (List ℕ)) (bs rest next : List ℕ) (n : ℕ) → next ≡ drop n rest → IsUnderWay a b bs rest → Appends b c (take n rest) → IsUnderWay a c bs next
goes_on a b c bs rest next n e h wrote = record {
  written = h.written ++ take n rest;
  split = h.split ∙ ap (λ t. h.written ++ t) (sym (take-append-drop n rest)) ∙ sym (append_assoc h.written (take n rest) (drop n rest)) ∙ ap (λ t. (h.written ++ take n rest) ++ t) (sym e);
  grew = appends_appends a b c h.written (take n rest) h.grew wrote;
}

pub stays : (a b c : Option (List ℕ)) (bs rest : List ℕ) → IsUnderWay a b bs rest → Keeps b c → IsUnderWay a c bs rest
stays a b c bs rest h kept = record { written = h.written; split = h.split; grew = appends_keeps a b c h.written h.grew kept }

-- a beginning of the first part
pub front_first : (a b : Option (List ℕ)) (xs ys : List ℕ) → AppendsFront a b xs → AppendsFront a b (xs ++ ys)
front_first a b xs ys f = record { written = f.written; rest = f.rest ++ ys; split = ap (λ t. t ++ ys) f.split ∙ append_assoc f.written f.rest ys; grew = f.grew }

-- the first part, and a beginning of the second
pub front_then : (a b c : Option (List ℕ)) (xs ys : List ℕ) → Appends a b xs → AppendsFront b c ys → AppendsFront a c (xs ++ ys)
front_then a b c xs ys w f = record { written = xs ++ f.written; rest = f.rest; split = ap (λ t. xs ++ t) f.split ∙ sym (append_assoc xs f.written f.rest); grew = appends_appends a b c xs f.written w f.grew }

pub wrote_err : {T E : Type 0} (a b : Option (List ℕ)) (r : Result T E) (xs : List ℕ) → IsErr r → AppendsFront a b xs → Wrote a b r xs
wrote_err a b (Ok x) xs e f = absurd (cc)
wrote_err a b (Err y) xs e f = f

pub wrote_is_err : {T E : Type 0} (a b : Option (List ℕ)) (r : Result T E) (xs : List ℕ) → is_err r ≡ true → Wrote a b r xs → AppendsFront a b xs
wrote_is_err a b (Ok x) xs e f = absurd (cc)
wrote_is_err a b (Err y) xs e f = f

pub wrote_is_ok : {T E : Type 0} (a b : Option (List ℕ)) (r : Result T E) (xs : List ℕ) → is_err r ≡ false → Wrote a b r xs → Appends a b xs
wrote_is_ok a b (Ok x) xs e f = f
wrote_is_ok a b (Err y) xs e f = absurd (cc)
