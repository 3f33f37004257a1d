-- Each step of the queue keeps its rule.
use Rattle.std.proofs.Common.{◌≡◌, ◌≢◌, ℕ, zero, suc, ◌+◌, ◌-◌, ◌<◌, ◌≤◌, Bool, true, false, true≢false, List, [], ◌∷◌, ◌++◌, length, map, set, Option, Some, None, sym, refl, ap, ◌∙◌, subst, ⊎_elim, arith}
use Rattle.std.specs.Prelude.{sum_by}
use Rattle.std.proofs.Math.ListN.{length-set}
use Rattle.std.proofs.lemmas.List.Sums.{sum_by-append, sum_by-cons, sum_by_push}
use mathlib.Core.Option.{some, some-ne-none, some-injective}
use lib.ListN.{get_elem?}
use Rattle.crossbeam_channel.specs.Fifo.{Forks, Learns, Merges, Pops, Pushes}
use Rattle.atomic_table.proofs.Lists.{at_set, at_snoc}
use Rattle.revision_jobs.specs.declared.answer.Job.{Job}
use Rattle.revision_jobs.specs.declared.entries.Entries.{Entries}
use Rattle.job_queue.specs.declared.rule.EndView.{EndView}
use Rattle.job_queue.specs.declared.rule.Slip.{Slip}
use Rattle.job_queue.specs.Balance.{AreOfKnown, FitsQueue, IsBalanced, IsLender, IsSending, IsTaking, KnowsQueue, first_view, lending, lent, spent_view, weight_taken, with_back, with_sent, with_table, with_taken}
use Rattle.job_queue.specs.Ends.{AddsUp}
use Rattle.job_queue.specs.Slips.{AreAmong, floor_of, slip_of}
use Rattle.job_queue.specs.Tables.{IsOfKnown, table_in}
use Rattle.job_queue.proofs.Shared.Once.{none_twice, rises_push}

-- what jobs weigh is what their slips weigh
weigh_jobs : (weight : Slip → ℕ) (jobs : List Job) → sum_by weight (map slip_of jobs) ≡ sum_by (λ (job : Job). weight (slip_of job)) jobs
weigh_jobs weight [] = refl
weigh_jobs weight (x ∷ xs) =
    omega (arith, weigh_jobs weight xs, sum_by-cons weight (slip_of x) (map slip_of xs), sum_by-cons (λ (job : Job). weight (slip_of job)) x xs)

-- a sum over the ends after one of them changed
sum_set : (f : EndView → ℕ) (views : List EndView) (port : ℕ) (v w : EndView) → get_elem? views port ≡ some v → sum_by f (set views port w) + f v ≡ sum_by f views + f w
sum_set f [] port v w e = absurd (some-ne-none v (sym e))
sum_set f (x ∷ xs) zero v w e =
    let same : f x ≡ f v = ap f (some-injective x v e) in
    omega (arith, sum_by-cons f w xs, sum_by-cons f x xs)
sum_set f (x ∷ xs) (suc port) v w e =
    omega (arith, sum_by-cons f x (set xs port w), sum_by-cons f x xs, sum_set f xs port v w e)

-- one of them is no more than the sum
sum_at : (f : EndView → ℕ) (views : List EndView) (port : ℕ) (v : EndView) → get_elem? views port ≡ some v → f v ≤ sum_by f views
sum_at f [] port v e = absurd (some-ne-none v (sym e))
sum_at f (x ∷ xs) zero v e =
    let same : f x ≡ f v = ap f (some-injective x v e) in
    omega (arith, sum_by-cons f x xs)
sum_at f (x ∷ xs) (suc port) v e = omega (arith, sum_by-cons f x xs, sum_at f xs port v e)

-- it is that of one end where all others have 0
sum_none : (f : EndView → ℕ) (views : List EndView) → ((j : ℕ) (u : EndView) → get_elem? views j ≡ some u → f u ≡ 0) → sum_by f views ≡ 0
sum_none f [] none = refl
sum_none f (x ∷ xs) none =
    let here = none 0 x refl in
    let rest = sum_none f xs (λ j u e. none (suc j) u e) in
    omega (arith, sum_by-cons f x xs)

zero_suc : (j : ℕ) → suc j ≡ 0 → ⊥
zero_suc j e = omega (arith, e)

sum_one : (f : EndView → ℕ) (views : List EndView) (port : ℕ) (v : EndView) → get_elem? views port ≡ some v
    → ((j : ℕ) (u : EndView) → j ≢ port → get_elem? views j ≡ some u → f u ≡ 0) → sum_by f views ≡ f v
sum_one f [] port v e none = absurd (some-ne-none v (sym e))
sum_one f (x ∷ xs) zero v e none =
    let same : f x ≡ f v = ap f (some-injective x v e) in
    let rest = sum_none f xs (λ j u at. none (suc j) u (zero_suc j) at) in
    omega (arith, sum_by-cons f x xs)
sum_one f (x ∷ xs) (suc port) v e none =
    let here = none 0 x (λ e. zero_suc port (sym e)) refl in
    let rest = sum_one f xs port v e (λ j u other at. none (suc j) u (λ e. other (omega (arith, e))) at) in
    omega (arith, sum_by-cons f x xs)

-- what an end took, weighed
abbrev taken_weight : (Slip → ℕ) → EndView → ℕ
taken_weight weight v = sum_by weight v.taken

-- for how many takers it stands
abbrev part_of : EndView → ℕ
part_of v = v.part

known_push : (table : Option Entries) (jobs : List Job) (job : Job) → AreOfKnown table jobs → IsOfKnown table job → AreOfKnown table (jobs ++ job ∷ [])
known_push table [] job all own = (own, tt)
known_push table (y ∷ ys) job all own = (all.0, known_push table ys job all.1 own)

-- while no table is known, there is no job
known_none : (table : Option Entries) (jobs : List Job) → AreOfKnown None jobs → AreOfKnown table jobs
known_none table [] all = tt
known_none table (y ∷ ys) all = absurd all.0

off : false ≡ true → ⊥
off e = true≢false (sym e)

module _ (seat : ℕ) (sent : List Slip) (table : Option Entries) (out : ℕ) where
  -- the ends fit
  Fit : List EndView → Type 0
  Fit views = (j : ℕ) (u : EndView) → get_elem? views j ≡ some u → FitsQueue seat sent table out j u

  -- also after one of them changed
  fit_set : (views : List EndView) (port : ℕ) (w : EndView)
      → ((j : ℕ) (u : EndView) → j ≢ port → get_elem? views j ≡ some u → FitsQueue seat sent table out j u) → FitsQueue seat sent table out port w
      → Fit (set views port w)
  unfolding Fit
  fit_set views port w others mine j u e =
      ⊎_elim
      (λ (x : (j ≡ port) × (w ≡ u)). subst (λ (y : ℕ × EndView). FitsQueue seat sent table out y.0 y.1) (λ i. (sym x.0 i, x.1 i)) mine)
      (λ (x : (j ≢ port) × (get_elem? views j ≡ some u)). others j u x.0 x.1)
      (at_set views port j w u e)

  -- and after one more came
  fit_more : (views : List EndView) (w : EndView) → Fit views → ((j : ℕ) → FitsQueue seat sent table out j w) → Fit (views ++ w ∷ [])
  unfolding Fit
  fit_more views w old new j u e =
      ⊎_elim (old j u) (λ (is : w ≡ u). subst (FitsQueue seat sent table out j) is (new j)) (at_snoc views w u j e)

  -- the sender fits
  fit_sender : (port : ℕ) (v : EndView) → v.sends ≡ true → KnowsQueue seat sent table out port v → FitsQueue seat sent table out port v
  fit_sender port v sends knows = record {
    sender = λ _. knows;
    taker = λ some. absurd (omega (arith, some, knows.alone));
    idle = λ no _. absurd (off (sym no ∙ sends));
  }

  -- and an end that is spent
  fit_spent : (port : ℕ) → FitsQueue seat sent table out port spent_view
  fit_spent port = record { sender = λ s. absurd (off s); taker = λ some. absurd (omega (arith, some)); idle = λ _ _. refl }

-- the ends that aren't the sender fit whatever it sent
fit_other : (seat : ℕ) (sent more : List Slip) (table : Option Entries) (out left j : ℕ) (u : EndView)
    → j ≢ seat → FitsQueue seat sent table out j u → FitsQueue seat more table left j u
fit_other seat sent more table out left j u other fits =
    record { sender = λ s. absurd (other (fits.sender s).port_is); taker = fits.taker; idle = fits.idle }

-- a queue without jobs, of one end
pub begins : IsBalanced [] (first_view ∷ [])
unfolding Fit
begins = record {
  seat = 0;
  sent = [];
  table = None;
  out = 0;
  rises = tt;
  balance = λ weight. refl;
  takers = refl;
  fits = one;
  owned = tt;
  alone = λ _. refl;
}
  where
    one : (port : ℕ) (v : EndView) → get_elem? (first_view ∷ []) port ≡ some v → FitsQueue 0 [] None 0 port v
    one zero v e = subst (FitsQueue 0 [] None 0 0) (some-injective _ _ e)
        (fit_sender 0 [] None 0 0 first_view refl (record { port_is = refl; sent_is = refl; table_is = refl; out_is = refl; alone = refl }))
    one (suc port) v e = absurd (some-ne-none v (sym e))

-- the sender sends a job
pub sends : (n port : ℕ) (v : EndView) (job : Job) → IsSending v → floor_of v.sent ≤ job.number → IsOfKnown v.table job
    → Pushes IsBalanced n port v job (λ w. w ≡ with_sent v job)
unfolding Fit
sends n port v job sending le own jobs views _ b at =
    let w = with_sent v job in
    let here = (b.fits port v at).sender sending.0 in (
      w,
      record {
        seat = b.seat;
        sent = w.sent;
        table = b.table;
        out = b.out;
        rises = rises_push 0 v.sent (slip_of job) sending.2 le;
        balance = λ weight.
            let sent : sum_by weight v.sent ≡ sum_by weight b.sent = ap (sum_by weight) here.sent_is in
            omega (
              arith,
              sum_by_push weight v.sent (slip_of job),
              sum_by_push (λ (other : Job). weight (slip_of other)) jobs job,
              sum_set (taken_weight weight) views port v w at,
              b.balance weight,
            );
        takers = omega (arith, sum_set part_of views port v w at, b.takers);
        fits = fit_set b.seat w.sent b.table b.out views port w
            (λ j u other e. fit_other b.seat b.sent w.sent b.table b.out b.out j u (λ is. other (is ∙ sym here.port_is)) (b.fits j u e))
            (fit_sender b.seat w.sent b.table b.out port w sending.0
            (record { port_is = here.port_is; sent_is = refl; table_is = here.table_is; out_is = here.out_is; alone = here.alone }));
        owned = known_push b.table jobs job b.owned (subst (λ (t : Option Entries). IsOfKnown t job) here.table_is own);
        alone = λ e. length-set views port w ∙ b.alone e;
      },
      refl,
    )

-- a taker takes a job
pub takes : (port : ℕ) (v : EndView) → v.part ≡ 1 → Pops IsBalanced port v (IsTaking v)
unfolding Fit
takes port v one job jobs views b at =
    let w = with_taken v job in
    let mine = b.fits port v at in
    let some : 0 < v.part = omega (arith, one) in
    let among : AreAmong w.taken b.sent = λ weight.
    omega (
      arith,
      sum_by_push weight v.taken (slip_of job),
      sum_by-cons (λ (other : Job). weight (slip_of other)) job jobs,
      sum_at (taken_weight weight) views port v at,
      b.balance weight,
    ) in (
      w,
      record {
        seat = b.seat;
        sent = b.sent;
        table = b.table;
        out = b.out;
        rises = b.rises;
        balance = λ weight. omega (
          arith,
          sum_by_push weight v.taken (slip_of job),
          sum_by-cons (λ (other : Job). weight (slip_of other)) job jobs,
          sum_set (taken_weight weight) views port v w at,
          b.balance weight,
        );
        takers = omega (arith, sum_set part_of views port v w at, b.takers);
        fits = fit_set b.seat b.sent b.table b.out views port w (λ j u _ e. b.fits j u e) (record {
          sender = λ s. absurd (omega (arith, some, (mine.sender s).alone));
          taker = mine.taker;
          idle = λ _ none. absurd (omega (arith, some, none));
        });
        owned = b.owned.1;
        alone = λ e. length-set views port w ∙ b.alone e;
      },
      (refl, subst (λ (t : Option Entries). IsOfKnown t job) (sym (mine.taker some)) b.owned.0, none_twice b.sent w.taken b.rises among),
    )

some_none : (table : Entries) → Some table ≡ None → ⊥
some_none table e = cc

-- another taker is made
pub forks : (port : ℕ) (v : EndView) → IsLender v → Forks IsBalanced port v (lending v) (lent v)
unfolding Fit
forks port v lender jobs views b at =
    let l = lending v in
    let r = lent v in
    let here = (b.fits port v at).sender lender.0 in
    record {
      seat = b.seat;
      sent = b.sent;
      table = b.table;
      out = b.out + 1;
      rises = b.rises;
      balance = λ weight.
          omega (arith, sum_by_push (taken_weight weight) (set views port l) r, sum_set (taken_weight weight) views port v l at, b.balance weight);
      takers = omega (arith, sum_by_push part_of (set views port l) r, sum_set part_of views port v l at, b.takers);
      fits = fit_more b.seat b.sent b.table (b.out + 1) (set views port l) r
          (fit_set b.seat b.sent b.table (b.out + 1) views port l
          (λ j u other e. fit_other b.seat b.sent b.sent b.table b.out (b.out + 1) j u (λ is. other (is ∙ sym here.port_is)) (b.fits j u e))
          (fit_sender b.seat b.sent b.table (b.out + 1) port l lender.0
          (record { port_is = here.port_is; sent_is = here.sent_is; table_is = here.table_is; out_is = ap (λ n. n + 1) here.out_is; alone = here.alone })))
          (λ j. record { sender = λ s. absurd (off s); taker = λ _. here.table_is; idle = λ _ none. absurd (omega (arith, none)) });
      owned = b.owned;
      alone = λ e. absurd (some_none (table_in v.table) (sym lender.1 ∙ (here.table_is ∙ e)));
    }

-- of one end there is one number
only : (views : List EndView) (j : ℕ) (u : EndView) → length views ≡ 1 → get_elem? views j ≡ some u → j ≡ 0
only [] j u len e = absurd (some-ne-none u (sym e))
only (x ∷ []) zero u len e = refl
only (x ∷ []) (suc j) u len e = absurd (some-ne-none u (sym e))
only (x ∷ y ∷ ys) j u len e = absurd (omega arith)

-- the one end of a new queue names the table
pub names : (port : ℕ) (v : EndView) (table : Entries) → v.sends ≡ true → v.table ≡ None → v.taken ≡ []
    → Forks IsBalanced port v (with_table table v) spent_view
unfolding Fit
names port v table sends none untaken jobs views b at =
    let l = with_table table v in
    let here = (b.fits port v at).sender sends in
    let none' : b.table ≡ None = sym here.table_is ∙ none in
    let len : length views ≡ 1 = b.alone none' in
    record {
      seat = b.seat;
      sent = b.sent;
      table = Some table;
      out = b.out;
      rises = b.rises;
      balance = λ weight.
          let no : sum_by weight v.taken ≡ 0 = ap (sum_by weight) untaken in
          omega (arith, sum_by_push (taken_weight weight) (set views port l) spent_view, sum_set (taken_weight weight) views port v l at, b.balance weight);
      takers = omega (arith, sum_by_push part_of (set views port l) spent_view, sum_set part_of views port v l at, b.takers);
      fits = fit_more b.seat b.sent (Some table) b.out (set views port l) spent_view
          (fit_set b.seat b.sent (Some table) b.out views port l
          (λ j u other e. absurd (other (only views j u len e ∙ sym (only views port v len at))))
          (fit_sender b.seat b.sent (Some table) b.out port l sends
          (record { port_is = here.port_is; sent_is = here.sent_is; table_is = refl; out_is = here.out_is; alone = here.alone })))
          (fit_spent b.seat b.sent (Some table) b.out);
      owned = known_none (Some table) jobs (subst (λ (o : Option Entries). AreOfKnown o jobs) none' b.owned);
      alone = λ e. absurd (some_none table e);
    }

-- a taker comes back to the sender
pub merges : (port : ℕ) (v : EndView) (other : ℕ) (w : EndView) → v.sends ≡ true → w.part ≡ 1
    → Merges IsBalanced port v other w (with_back v w) spent_view
unfolding Fit
merges port v other w sends one jobs views b at apart at' =
    let both = with_back v w in
    let first = set views port both in
    let here = (b.fits port v at).sender sends in
    let there = sum_at part_of first other w at' in
    let part = sum_set part_of views port v both at in
    let parts = sum_set part_of first other w spent_view at' in
    record {
      seat = b.seat;
      sent = b.sent;
      table = b.table;
      out = b.out - 1;
      rises = b.rises;
      balance = λ weight. omega (
        arith,
        sum_by-append weight v.taken w.taken,
        sum_set (taken_weight weight) views port v both at,
        sum_set (taken_weight weight) first other w spent_view at',
        b.balance weight,
      );
      takers = omega (arith, one, part, parts, there, b.takers);
      fits = fit_set b.seat b.sent b.table (b.out - 1) first other spent_view
          (λ j u _ e. fit_set b.seat b.sent b.table (b.out - 1) views port both
          (λ j u away e. fit_other b.seat b.sent b.sent b.table b.out (b.out - 1) j u (λ is. away (is ∙ sym here.port_is)) (b.fits j u e))
          (fit_sender b.seat b.sent b.table (b.out - 1) port both sends
          (record { port_is = here.port_is; sent_is = here.sent_is; table_is = here.table_is; out_is = ap (λ n. n - 1) here.out_is; alone = here.alone }))
          j u e)
          (fit_spent b.seat b.sent b.table (b.out - 1) other);
      owned = b.owned;
      alone = λ e. length-set first other spent_view ∙ (length-set views port both ∙ b.alone e);
    }

-- what the queue holds is among what the sender sent
pub learns : (port : ℕ) (v : EndView) → v.sends ≡ true → Learns IsBalanced port v (λ jobs. AreAmong (map slip_of jobs) v.sent)
learns port v sends jobs views b at weight =
    let sent : sum_by weight v.sent ≡ sum_by weight b.sent = ap (sum_by weight) ((b.fits port v at).sender sends).sent_is in
    omega (arith, weigh_jobs weight jobs, b.balance weight)

-- an end that is neither the sender nor a taker took nothing
idle_nothing : (weight : Slip → ℕ) (seat : ℕ) (sent : List Slip) (table : Option Entries) (out j : ℕ) (u : EndView)
    → FitsQueue seat sent table out j u → j ≢ seat → u.part ≡ 0 → taken_weight weight u ≡ 0
idle_nothing weight seat sent table out j u fits other none = by_sends u.sends refl
  where
    by_sends : (b : Bool) → u.sends ≡ b → taken_weight weight u ≡ 0
    by_sends true is = absurd (other (fits.sender is).port_is)
    by_sends false is = ap (sum_by weight) (fits.idle is none)

-- where all takers came back, what was sent adds up
pub settles : (port : ℕ) (v : EndView) → IsSending v → v.out ≡ 0 → Learns IsBalanced port v (λ _. AddsUp v.sent v.taken)
settles port v sending home jobs views b at =
    let here = (b.fits port v at).sender sending.0 in
    let waiting = map slip_of jobs in
    let alone : (weight : Slip → ℕ) → weight_taken weight views ≡ sum_by weight v.taken = λ weight.
    sum_one (taken_weight weight) views port v at (λ j u other e.
    let part = sum_at part_of views j u e in
    idle_nothing weight b.seat b.sent b.table b.out j u (b.fits j u e) (λ is. other (is ∙ sym here.port_is))
    (omega (arith, part, b.takers, here.out_is, home))) in
    let balance : (weight : Slip → ℕ) → sum_by weight v.sent ≡ sum_by weight v.taken + sum_by weight waiting = λ weight.
    (let sent : sum_by weight v.sent ≡ sum_by weight b.sent = ap (sum_by weight) here.sent_is in
    omega (arith, weigh_jobs weight jobs, b.balance weight, alone weight)) in
    record {
      waiting = waiting;
      balance = balance;
      once = none_twice v.sent (v.taken ++ waiting) sending.2 (λ weight. omega (arith, sum_by-append weight v.taken waiting, balance weight));
    }
