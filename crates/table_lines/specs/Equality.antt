-- Equality of transitions.
use Rattle.std.specs.Prelude.{◌≡◌, ◌&&◌, ◌==◌, Bool, false}
use Rattle.std.specs.Bool.{Decides}
use Rattle.std.specs.Cmp.{IsEquivalence, IsPartialEquivalence, partial_equiv_from_equiv}
use Rattle.std.specs.Cmp.Lexicographic.{pointwise}
use Rattle.std.proofs.Common.{ap, refl, sym}
use Rattle.std.proofs.lemmas.Bool.{and_from, and_parts, eq-eqb, eqb-true}
use Rattle.std.proofs.lemmas.Bool.Decides.{same_from_decides}
use lib.Pointwise.{bytes_decides, pointwise_decides}
use Rattle.table_lines.specs.declared.transition.Entry.{Entry}
use Rattle.table_lines.specs.declared.transition.Entry.TheVariants.{State, OneOf}
use Rattle.table_lines.specs.declared.transition.Transition.{Transition}
use Rattle.table_lines.specs.declared.transition.Variable.{Variable}
use Rattle.table_lines.specs.States.{same_set}

-- variables of one number and the same states
abbrev pub same_variable : Variable → Variable → Bool
same_variable v w = (v.number == w.number) && same_set v.states w.states

-- one state, or the same variable
abbrev pub same_entry : Entry → Entry → Bool
same_entry (State a) (State b) = a == b
same_entry (State a) (OneOf w) = false
same_entry (OneOf v) (State b) = false
same_entry (OneOf v) (OneOf w) = same_variable v w

-- the same entries, one by one, and the same result
abbrev pub same_transition : Transition → Transition → Bool
same_transition t u = pointwise same_entry t.inputs u.inputs && same_entry t.result u.result

-- each test decides whether the two are equal

pub same_variable-decides : (v w : Variable) → Decides (same_variable v w) (v ≡ w)
same_variable-decides v w = (
  λ h.
      let parts = and_parts (v.number == w.number) (same_set v.states w.states) h in
      let numbers = eqb-true v.number w.number parts.0 in
      let states = (bytes_decides v.states w.states).0 parts.1 in
      (λ i. record { number = numbers i; states = states i }),
  λ e.
      and_from (v.number == w.number) (same_set v.states w.states)
      (eq-eqb v.number w.number (ap (λ (x : Variable). x.number) e))
      ((bytes_decides v.states w.states).1 (ap (λ (x : Variable). x.states) e)),
)

pub same_entry-decides : (a b : Entry) → Decides (same_entry a b) (a ≡ b)
same_entry-decides (State a) (State b) =
    (λ h. ap (λ s. State s) (eqb-true a b h), λ e. eq-eqb a b cc)
same_entry-decides (State a) (OneOf w) = (λ h. absurd cc, λ e. absurd cc)
same_entry-decides (OneOf v) (State b) = (λ h. absurd cc, λ e. absurd cc)
same_entry-decides (OneOf v) (OneOf w) = (
  λ h. ap (λ x. OneOf x) ((same_variable-decides v w).0 h),
  λ e. (same_variable-decides v w).1 cc,
)

pub same_transition-decides : (t u : Transition) → Decides (same_transition t u) (t ≡ u)
same_transition-decides t u =
    let inputs = pointwise_decides {E = same_entry} same_entry-decides t.inputs u.inputs in
    let result = same_entry-decides t.result u.result in (
      λ h.
          let parts =
          and_parts (pointwise same_entry t.inputs u.inputs) (same_entry t.result u.result) h in
          (λ i. record { inputs = inputs.0 parts.0 i; result = result.0 parts.1 i }),
      λ e.
          and_from (pointwise same_entry t.inputs u.inputs) (same_entry t.result u.result)
          (inputs.1 (ap (λ (x : Transition). x.inputs) e))
          (result.1 (ap (λ (x : Transition). x.result) e)),
    )

-- so they are equivalences

pub laws : IsEquivalence same_transition
laws =
    let same = same_transition-decides in
    record {
      refl = λ t. (same t t).1 refl;
      symm = λ t u.
          same_from_decides (same_transition t u) (same_transition u t) (same t u)
          (λ h. sym ((same u t).0 h), λ e. (same u t).1 (sym e));
      congr = λ t u v h. ap (λ x. same_transition x v) ((same t u).0 h);
    }

pub partial_laws : IsPartialEquivalence same_transition
partial_laws = partial_equiv_from_equiv laws
