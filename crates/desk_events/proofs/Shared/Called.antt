-- The calls of a desk are events of the law.
use Rattle.desk_events.proofs.Names.{Answer, AreCalls, Asked, Bool, CallsAreEvents, CanEdit, CanHappen, CanIssue, CanRecall, Configuration, Core, EditFault, Event, HappenAll, Happening, Happens, IsCall, IsReached, IsTrue, IsTrueAnswer}
use Rattle.desk_events.proofs.Names.{IsWithout, List, Mark, Need, None, Option, Recalled, Recalls, Row, Some, [], after_edit, after_event, answered, ap, arith, awaits, cancels, changed, collects, desk, edits, false, finishes, if◌then◌else◌}
use Rattle.desk_events.proofs.Names.{inl, inr, is_need, issues, length, nat_tests, opened, opened_among, pattern, queued_after, recall, recalls, refl, refusal, step_to, subst, sym, true, unless_refused, world_after, ℕ, ◌++◌, ◌==◌, ◌∙◌, ◌∷◌}
use Rattle.desk_events.proofs.Names.{◌≡◌}
use Rattle.std.proofs.Math.Path.{fun_ext}
use Rattle.desk_events.specs.Configuration.{takes}
use Rattle.desk_events.proofs.Shared.Right.{answered_out, cancelled_out, kept_out, one_number, picked, recalled_out, unawaited}
use Rattle.desk_events.proofs.Shared.Tests.{either_way, true_eq}
use Rattle.desk_events.proofs.Shared.Opened.{opened_none}

-- one thing after another happens

all_then : (hs : List Happening) (c d e : Configuration) (ks : List Happening) → HappenAll hs c d → HappenAll ks d e
    → HappenAll (hs ++ ks) c e
all_then [] c d e ks h k = subst (λ x. HappenAll ks x e) h k
all_then (x ∷ hs) c d e ks h k = (h.0, h.1, all_then hs h.0 d e ks h.2 k)

pub reached_then : (revision : ℕ) (c d : Configuration) (h : Happening) → IsReached revision c → Happens h c d
    → IsReached revision d
reached_then revision c d h reached does = record {
  happenings = reached.happenings ++ h ∷ [];
  all = all_then reached.happenings (opened_among revision) c d (h ∷ []) reached.all (d, inl does, refl);
}

-- a list without one of its members
pub split_at : {A : Type 0} (xs ys : List A) (x : A) → IsWithout x (xs ++ x ∷ ys) (xs ++ ys)
split_at xs ys x = record { before = xs; after = ys; there = refl; gone = refl }

-- a job that is queued is taken, and worked with an answer
pub worked_then : (revision : ℕ) (answer : Answer) (c : Configuration) (rest : List ℕ)
    → IsWithout answer.number c.queued rest → IsTrueAnswer c.core.entries answer → IsReached revision c
    → IsReached revision (record c { queued = rest; answers = answer ∷ c.answers })
worked_then revision answer c rest queued true_one reached =
    let took : Configuration = record c { queued = rest; taken = (0, answer.number) ∷ c.taken } in
    reached_then revision took (record c { queued = rest; answers = answer ∷ c.answers }) (finishes 0 answer)
    (reached_then revision c took (takes 0 answer.number) reached
    (record { core = refl; queued = queued; taken = refl; answers = refl }))
    (record {
      value_is = true_one;
      core = refl;
      queued = refl;
      taken = split_at [] c.taken (0, answer.number);
      answers = refl;
    })

-- an answer of those that are there is collected
pub collected_then : (revision : ℕ) (xs ys : List Answer) (answer : Answer) (c : Configuration)
    → c.answers ≡ xs ++ answer ∷ ys → IsReached revision c
    → IsReached revision (record c { core = after_event c.core (collects answer); answers = xs ++ ys })
collected_then revision xs ys answer c is reached =
    reached_then revision c (record c { core = after_event c.core (collects answer); answers = xs ++ ys })
    (desk (collects answer)) reached (record {
      can = tt;
      core = refl;
      queued = refl;
      taken = refl;
      answers = record { before = xs; after = ys; there = is; gone = refl };
    })

-- a number among others

abbrev among : ℕ → List ℕ → Bool
among n [] = false
among n (m ∷ ms) = if m == n then true else among n ms

among_front : (n : ℕ) (xs ys : List ℕ) → among n xs ≡ true → among n (xs ++ ys) ≡ true
among_front n [] ys h = absurd cc
among_front n (x ∷ xs) ys h = grind (arith, among_front n xs ys)

among_last : (n : ℕ) (xs : List ℕ) → among n (xs ++ n ∷ []) ≡ true
among_last n [] = grind (arith, nat_tests)
among_last n (x ∷ xs) = grind (arith, nat_tests, among_last n xs)

-- without one of them, each other is still there
record Without (n : ℕ) (xs : List ℕ) : Type 0 where
  rest : List ℕ
  is : IsWithout n xs rest
  others : (m : ℕ) → among m xs ≡ true → (m == n) ≡ false → among m rest ≡ true

without_cons : (n x : ℕ) (xs : List ℕ) → Without n xs → Without n (x ∷ xs)
without_cons n x xs w = record {
  rest = x ∷ w.rest;
  is =
      record {
        before = x ∷ w.is.before;
        after = w.is.after;
        there = ap (λ ys. x ∷ ys) w.is.there;
        gone = ap (λ ys. x ∷ ys) w.is.gone;
      };
  others = λ m there other.
      either_way (x == m) (λ hit. rw hit refl) (λ miss. rw miss (w.others m (rw miss at there) other));
}

without : (n : ℕ) (xs : List ℕ) → among n xs ≡ true → Without n xs
without n [] h = absurd cc
without n (x ∷ xs) h =
    either_way (x == n)
    (λ hit. let same : x ≡ n = true_eq x n hit in record {
      rest = xs;
      is = record { before = []; after = xs; there = ap (λ y. y ∷ xs) same; gone = refl };
      others = λ m there other. still m x xs there (subst (λ k. (m == k) ≡ false) (sym same) other);
    })
    (λ miss. without_cons n x xs (without n xs (rw miss at h)))
  where
    still : (m x : ℕ) (xs : List ℕ) → among m (x ∷ xs) ≡ true → (m == x) ≡ false → among m xs ≡ true
    still m x xs there other = grind (arith, nat_tests)

-- each number that is awaited is queued
record IsServed (revision : ℕ) (core : Core) : Type 0 where
  among_them : Configuration
  reached : IsReached revision among_them
  is : among_them.core ≡ core
  queued : (need : Need) (n : ℕ) → core.rows need ≡ awaits n → among n among_them.queued ≡ true

-- a configuration after an event that collects nothing
abbrev after : Configuration → Event → Configuration
after c event = record {
  core = after_event c.core event;
  queued = queued_after c.core c.queued event;
  taken = c.taken;
  answers = c.answers;
}

-- what is awaited after an edit, an answer, a cancelling or a recall was awaited before

edits_out : (c : Core) (asked : Asked) (felt : Option Mark) (need : Need) (n : ℕ)
    → (after_event c (edits asked felt)).rows need ≡ awaits n → c.rows need ≡ awaits n
edits_out c asked felt need n = by_refusal (refusal c.plan asked)
  where
    by_refusal : (o : Option EditFault)
        → (after_edit c asked felt (unless_refused o (changed c.plan asked))).rows need ≡ awaits n
        → c.rows need ≡ awaits n
    by_refusal (Some fault) h = h
    by_refusal None h = kept_out c.plan asked felt (changed c.plan asked).plan need (c.rows need) n h

-- so an event of the desk is served, which is no collecting
served_by : (revision : ℕ) (c : Core) (event : Event) (s : IsServed revision c)
    → Happens (desk event) s.among_them (after s.among_them event)
    → ((need : Need) (n : ℕ) → (after_event c event).rows need ≡ awaits n
    → among n (queued_after c s.among_them.queued event) ≡ true) → IsServed revision (after_event c event)
served_by revision c event s does queued = record {
  among_them = after s.among_them event;
  reached = reached_then revision s.among_them (after s.among_them event) (desk event) s.reached does;
  is = ap (λ k. after_event k event) s.is;
  queued = λ need n out.
      subst (λ (k : Core). among n (queued_after k s.among_them.queued event) ≡ true) (sym s.is) (queued need n out);
}

recalls_served : (revision : ℕ) (rs : List Recalled) (c d : Core) → IsServed revision c → Recalls rs c d
    → IsServed revision d
recalls_served revision [] c d s h = subst (IsServed revision) (sym h) s
recalls_served revision (r ∷ rs) c d s h =
    let event = recall r in
    let v = pattern (world_after r.step) in
    let can = subst (λ (k : Core). CanRecall k r.mark r.number r.step) (sym s.is) h.0 in
    recalls_served revision rs (after_event c event) d
    (served_by revision c event s
    (record { can = can; core = refl; queued = refl; taken = refl; answers = refl })
    (λ need n out. s.queued need n (recalled_out (step_to r.mark) need v (c.rows need) n out)))
    h.1

-- and one that is awaited afterwards is another
answered_other : (answer : Answer) (s : Row) (n : ℕ) → answered answer s ≡ awaits n → (n == answer.number) ≡ false
answered_other answer s n out = grind (arith, nat_tests)

-- to one that is, the job is taken, worked and collected
collects_served : (revision : ℕ) (c : Core) (answer : Answer) → IsServed revision c → IsTrueAnswer c.entries answer
    → IsServed revision (after_event c (collects answer))
collects_served revision c answer s true_one =
    either_way (among answer.number s.among_them.queued)
    (λ there. worked there (without answer.number s.among_them.queued there))
    (λ none. subst (IsServed revision) (sym (unchanged none)) s)
  where
    unchanged : among answer.number s.among_them.queued ≡ false → after_event c (collects answer) ≡ c
    unchanged none =
        ap (λ (rows : Need → Row). record c { rows = rows })
        (fun_ext (λ need. unawaited answer (c.rows need) (λ n is. off need n (s.queued need n is))))
      where
        off : (need : Need) (n : ℕ) → among n s.among_them.queued ≡ true → (n == answer.number) ≡ false
        off need n there = grind (arith, nat_tests)

    worked : among answer.number s.among_them.queued ≡ true → Without answer.number s.among_them.queued
        → IsServed revision (after_event c (collects answer))
    worked there w =
        let x = s.among_them in
        let answered_one : Configuration = record x { queued = w.rest; answers = answer ∷ x.answers } in
        let collected : Configuration =
        record x { core = after_event x.core (collects answer); queued = w.rest } in
        record {
          among_them = collected;
          reached = collected_then revision [] x.answers answer answered_one refl
              (worked_then revision answer x w.rest w.is
              (subst (λ (k : Core). IsTrueAnswer k.entries answer) (sym s.is) true_one) s.reached);
          is = ap (λ k. after_event k (collects answer)) s.is;
          queued = λ need n out.
              let was = answered_out answer (c.rows need) n out in
              w.others n (s.queued need n was) (answered_other answer (c.rows need) n out);
        }

-- whatever is called

event_served : (revision : ℕ) (c : Core) (event : Event) → IsServed revision c → CanHappen c event → IsTrue c event
    → IsServed revision (after_event c event)
event_served revision c (edits asked felt) s can true_one =
    served_by revision c (edits asked felt) s
    (record {
      can = subst (λ (k : Core). CanEdit k asked felt) (sym s.is) can;
      core = refl;
      queued = refl;
      taken = refl;
      answers = refl;
    })
    (λ need n out. s.queued need n (edits_out c asked felt need n out))
event_served revision c (issues need entry) s can true_one =
    let k = length c.entries in
    served_by revision c (issues need entry) s
    (record {
      can = subst (λ (x : Core). CanIssue x need entry) (sym s.is) can;
      core = refl;
      queued = refl;
      taken = refl;
      answers = refl;
    })
    (λ other n out.
    picked (is_need need other) (awaits k) (c.rows other)
    (λ hit is. subst (λ m. among m (s.among_them.queued ++ k ∷ []) ≡ true) (one_number k n (sym is ∙ out))
    (among_last k s.among_them.queued))
    (λ miss is. among_front n s.among_them.queued (k ∷ []) (s.queued other n (sym is ∙ out))))
event_served revision c (collects answer) s can true_one = collects_served revision c answer s true_one
event_served revision c (cancels number) s can true_one =
    served_by revision c (cancels number) s
    (record { can = tt; core = refl; queued = refl; taken = refl; answers = refl })
    (λ need n out. s.queued need n (cancelled_out number (c.rows need) n out))
event_served revision c (recalls mark number step) s can true_one =
    recalls_served revision (record { mark = mark; number = number; step = step } ∷ []) c
    (after_event c (recalls mark number step)) s (can, refl)

call_served : (revision : ℕ) (c d : Core) → IsServed revision c → IsCall c d → IsServed revision d
call_served revision c d s (inl (event, call)) =
    recalls_served revision call.follows.entered (after_event c event) d
    (event_served revision c event s call.can call.true_one) call.follows.recalls
call_served revision c d s (inr same) = subst (IsServed revision) (sym same) s

opened_served : (revision : ℕ) → IsServed revision (opened revision)
opened_served revision = record {
  among_them = opened_among revision;
  reached = record { happenings = []; all = refl };
  is = refl;
  queued = λ need n out. absurd (opened_none revision need n out);
}

calls_served : (revision : ℕ) (desks : List Core) (c d : Core) → IsServed revision c → AreCalls desks c d
    → IsServed revision d
calls_served revision [] c d s h = subst (IsServed revision) (sym h) s
calls_served revision (x ∷ desks) c d s h = calls_served revision desks x d (call_served revision c x s h.0) h.1

pub calls_are_events : CallsAreEvents
calls_are_events revision desks c h =
    let s = calls_served revision desks (opened revision) c (opened_served revision) h in
    (s.among_them, s.reached, s.is)
