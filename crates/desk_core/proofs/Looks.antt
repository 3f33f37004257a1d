-- One look at a settling after another.
use Rattle.desk_core.proofs.Names.{AreOfPlan, BookState, Bool, List, LooksAt, LooksAtEach, LooksIfAnswered, LooksOn, PostView, [], arith, false, inl, inr, length, length-append, refl, subst, sym, true, ◌++◌, ◌+◌, ◌∷◌, ◌≡◌}
use Rattle.schedule.specs.Plan.{Plan}

-- one more desk of the document
of_plan_too : (plan : Plan) (ds : List BookState) (d : BookState) → AreOfPlan plan ds → d.plan ≡ plan
    → AreOfPlan plan (ds ++ d ∷ [])
of_plan_too plan [] d all is = (is, tt)
of_plan_too plan (e ∷ es) d all is = (all.0, of_plan_too plan es d all.1 is)

module _ {O : Type 0} (sees : O → BookState → O → Type 0) where
  pub looked_at : (seen : Bool) (old new : O) (d : BookState) → (seen ≡ true → sees old d new)
      → (seen ≡ false → new ≡ old) → LooksAt sees old d new
  looked_at seen old new d was wasn = grind arith

  looks_too : (ds : List BookState) (d : BookState) (a b c : O) → LooksAtEach sees a ds b → LooksAt sees b d c
      → LooksAtEach sees a (ds ++ d ∷ []) c
  looks_too [] d a b c same look = (c, subst (λ v. LooksAt sees v d c) same look, refl)
  looks_too (e ∷ es) d a b c looks look = (looks.0, looks.1, looks_too es d looks.0 b c looks.2 look)

  -- as it begins
  pub looks_first : (p : PostView) (d : BookState) (old new : O) → LooksAt sees old d new → LooksOn sees p p d old new
  looks_first p d old new look = record {
    later = [];
    document = tt;
    answers = omega arith;
    looks = (new, look, refl);
  }

  pub looks_then : (p q r : PostView) (first d : BookState) (a b c : O) → d.plan ≡ first.plan
      → LooksOn sees p q first a b → LooksIfAnswered sees q r d b c → LooksOn sees p r first a c
  looks_then p q r first d a b c is on (inl answered) =
      let more = answered.0 in
      let before = on.answers in
      let longer : length (on.later ++ d ∷ []) ≡ length on.later + 1 = length-append on.later (d ∷ []) in record {
        later = on.later ++ d ∷ [];
        document = of_plan_too first.plan on.later d on.document is;
        answers = omega (arith, more, before, longer);
        looks = looks_too (first ∷ on.later) d a b c on.looks answered.1;
      }
  looks_then p q r first d a b c is on (inr none) =
      let same = none.0 in
      let before = on.answers in record {
        later = on.later;
        document = on.document;
        answers = omega (arith, same, before);
        looks = subst (λ v. LooksAtEach sees a (first ∷ on.later) v) (sym none.1) on.looks;
      }
