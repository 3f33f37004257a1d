-- What stands after an edit is right, and just what the edit keeps.
use Rattle.dependency_book.proofs.Names.{AllByRecursion, AreMarksOf, AreRemade, ArrivalRow, Asked, BookFeels, BookState, Bookmark, Bool, Branch, Changed, Empty, EntersSteps, IsEdit, IsFelt, IsRightBook, IsSound, Job, KeepsRows, KeepsUnfelt}
use Rattle.dependency_book.proofs.Names.{List, Mark, MayBeAsked, Need, None, Ok, Option, Plan, Row, Some, Step, TextRow, View, World, [], accepted, after_event, ap, ap₂, arith, arrival_after, arrival_in, arrival_known, arrival_row}
use Rattle.dependency_book.proofs.Names.{bookmark_in, bookmark_rank, bookmark_stays, by_key, change, changed, core_of, edits, edits_right_on, expected, false, has_mark, if◌then◌else◌, inl, inr, is_mark, is_start, keeps_arrival, kept_row}
use Rattle.dependency_book.proofs.Names.{keys, made, mark_at, mark_rank, mark_stays, nat_tests, plain_row, rank_is, refl, refusal, remade_rows, row_at, row_of, state_at, subst, sym, text_kept, text_row, unless_refused, unrefused, ℕ, ◌&&◌}
use Rattle.dependency_book.proofs.Names.{◌^◌, ◌∙◌, ◌∷◌, ◌≡◌, ◌≤◌}
use Rattle.schedule.specs.declared.edit.Edited.{Edited}
use Rattle.dependency_book.specs.declared.remade.Rows.{Rows}
use Rattle.dependency_book.proofs.Followed.{MayBeFelt, stays_for, texts_stay}
use Rattle.dependency_book.proofs.Placed.{first_is}
use Rattle.dependency_book.proofs.Remaking.{kept_for, keys-remade, state_at-remade}
use Rattle.dependency_book.proofs.Standing.{has, key_row, state_at-above, state_row}
use Rattle.desk_events.specs.Event.{after_edit as core_after_edit}
use Rattle.desk_events.specs.Right.{IsRight as IsRightCore}
use Rattle.dependency_book.proofs.Shared.Cores.{arrives_same, same_core}
use Rattle.dependency_book.proofs.Recalled.{recalls_follow}

-- the book of a document with other rows
abbrev pub with_rows : BookState → Plan → List ArrivalRow → List TextRow → BookState
with_rows d q arrivals texts = record {
  table = d.table;
  plan = q;
  entries = d.entries;
  indices = d.indices;
  arrivals = arrivals;
  texts = texts;
  refused = d.refused;
  facts = d.facts;
  missed = d.missed;
}

-- what stands after an edit that is felt from here and gives this document, with these marks
abbrev pub after_edit : BookState → Plan → Option Mark → List Mark → BookState
after_edit d q felt marks =
    with_rows d q (remade_rows mark_rank (mark_stays q.branches felt) d.arrivals marks)
    (remade_rows bookmark_rank (bookmark_stays q.branches felt) d.texts q.bookmarks)

-- the marks that stay

-- what is kept for a key of a rank, where each key of that rank says the same
kept_key : {K V : Type 0} (rank : K → ℕ) (keeps : K → Bool) (n : ℕ) (rows : List (Row K V)) (b : Bool)
    (ks : List K)
    → AllByRecursion (λ k. rank k ≡ n → keeps k ≡ b) ks
    → kept_for (λ k was. keeps k) (row_at (by_key rank) n rows) (row_at rank n ks)
    ≡ (if has rank n ks && b then state_at rank n rows else Empty)
kept_key rank keeps n rows b [] same = refl
kept_key rank keeps n rows b (k ∷ ks) same =
    grind (arith, nat_tests, same.0, state_row rank n rows, kept_key rank keeps n rows b ks same.1)

-- marks that are near enough have ranks of their own
keeps_one : (branches : List Branch) (felt : Option Mark) (m : Mark) (marks : List Mark)
    → AllByRecursion (λ (n : Mark). n.generation ≤ 2 ^ 60) marks
    → AllByRecursion
    (λ (n : Mark). mark_rank n ≡ mark_rank m → keeps_arrival branches felt n ≡ keeps_arrival branches felt m)
    marks
keeps_one branches felt m [] near = tt
keeps_one branches felt m (n ∷ marks) near = (
  λ same. ap (keeps_arrival branches felt) (sym (rank_is m n near.0 (sym same))),
  keeps_one branches felt m marks near.1,
)

-- a mark has its row
mark_has : (p : Plan) (marks : List Mark) (m : Mark) → AreMarksOf p marks → is_start m ≡ false
    → has mark_rank (mark_rank m) marks ≡ is_mark p m
mark_has p marks m are other = has_mark m marks are.near ∙ are.are m other

arrivals_stay : (d : BookState) (q : Plan) (felt : Option Mark) (marks : List Mark) (m : Mark)
    → AreMarksOf d.plan (keys d.arrivals) → AreMarksOf q marks
    → arrival_row (after_edit d q felt marks) m ≡ arrival_after felt d.plan q m (arrival_row d m)
arrivals_stay d q felt marks m was are =
    let n = mark_rank m in
    let keeps = keeps_arrival q.branches felt m in
    let stands = state_at-remade mark_rank (mark_stays q.branches felt) d.arrivals n marks
    ∙ kept_key mark_rank (keeps_arrival q.branches felt) n d.arrivals keeps marks
    (keeps_one q.branches felt m marks are.near) in
    let none = state_at-above mark_rank n d.arrivals in
    grind (arith, stands, none, mark_has q marks m are, mark_has d.plan (keys d.arrivals) m was)

-- the bookmarks that stay

kept_text : (branches : List Branch) (felt : Option Mark) (id : ℕ) (rows : List TextRow) (o : Option Bookmark)
    → kept_for (bookmark_stays branches felt) (row_at (by_key bookmark_rank) id rows) o
    ≡ stays_for branches felt o
    (row_at bookmark_rank id (keys rows)) (state_at bookmark_rank id rows)
kept_text branches felt id rows o =
    grind (arith, key_row bookmark_rank id rows, state_row bookmark_rank id rows)

texts_after : (d : BookState) (asked : Asked) (felt : Option Mark) (marks : List Mark) (id : ℕ)
    → MayBeFelt d.plan asked felt → keys d.texts ≡ d.plan.bookmarks
    → text_row (after_edit d (changed d.plan asked).plan felt marks) id ≡ text_kept
    (changed d.plan asked).plan.branches felt asked (bookmark_in d.plan.bookmarks id) (text_row d id)
texts_after d asked felt marks id so bookmarks =
    let bs = (changed d.plan asked).plan.bookmarks in
    let branches = (changed d.plan asked).plan.branches in
    let s = text_row d id in
    state_at-remade bookmark_rank (bookmark_stays branches felt) d.texts id bs
    ∙ ap (kept_for (bookmark_stays branches felt) (row_at (by_key bookmark_rank) id d.texts)) (first_is bs id)
    ∙ kept_text branches felt id d.texts (bookmark_in bs id)
    ∙ ap (λ o. stays_for branches felt (bookmark_in bs id) o s)
    (first_is (keys d.texts) id ∙ ap (λ ks. bookmark_in ks id) bookmarks)
    ∙ texts_stay d.plan felt id s asked so

may_be_felt : (known : Mark → Option World) (p q : Plan) (asked : Asked) (felt : Option Mark)
    → IsFelt known p asked q felt → MayBeFelt p asked felt
may_be_felt known p q asked felt (inl h) = inl h.1
may_be_felt known p q asked felt (inr h) = inr h.1

-- just what the edit keeps
pub edit_keeps : (d : BookState) (asked : Asked) (felt : Option Mark) (marks : List Mark) → IsRightBook d
    → MayBeFelt d.plan asked felt → AreMarksOf (changed d.plan asked).plan marks
    → KeepsRows asked felt d (after_edit d (changed d.plan asked).plan felt marks)
edit_keeps d asked felt marks right so are = record {
  table = refl;
  entries = refl;
  indices = refl;
  remembered = record { facts = refl; missed = refl };
  arrivals = λ m. arrivals_stay d (changed d.plan asked).plan felt marks m right.marks are;
  texts = λ id. texts_after d asked felt marks id so right.bookmarks;
}

-- in the law it is what the edit keeps

pub kept_core : (asked : Asked) (felt : Option Mark) (old new : BookState) → KeepsRows asked felt old new
    → (need : Need)
    → plain_row (row_of new need) ≡ kept_row old.plan asked felt new.plan need (plain_row (row_of old need))
kept_core asked felt old new keeps (Step branch mark) = grind (arith, keeps.arrivals (mark_at branch mark))
kept_core asked felt old new keeps (View id) = grind (arith, keeps.texts id)

-- a job that is out afterwards was out for the same row before

kept_out : (asked : Asked) (felt : Option Mark) (d e : BookState) (need : Need) (job : Job)
    → KeepsRows asked felt d e → expected e need ≡ Some job → expected d need ≡ Some job
kept_out asked felt d e (Step branch mark) job keeps out =
    grind (arith, keeps.arrivals (mark_at branch mark), out)
kept_out asked felt d e (View id) job keeps out = grind (arith, keeps.texts id, out)

-- an edit keeps just this of a book, which is right afterwards
abbrev pub Revises : Asked → BookState → BookState → Type 0
Revises asked d e = KeepsUnfelt asked d e × IsRightBook e

-- the desk after the edit
edited_core : (d : BookState) (asked : Asked) (felt : Option Mark) (e : BookState)
    → refusal d.plan asked ≡ None
    → e.plan ≡ (changed d.plan asked).plan → KeepsRows asked felt d e
    → core_of e ≡ after_event (core_of d) (edits asked felt)
edited_core d asked felt e free after keeps =
    let q = (changed d.plan asked).plan in
    let was = λ (need : Need). plain_row (row_of d need) in
    same_core e.plan q e.entries d.entries (λ need. plain_row (row_of e need))
    (λ need. kept_row d.plan asked felt q need (was need)) after keeps.entries
    (λ need. kept_core asked felt d e keeps need
    ∙ ap (λ p. kept_row d.plan asked felt p need (was need)) after)
    ∙ sym (ap (λ o. core_after_edit (core_of d) asked felt (unless_refused o (changed d.plan asked))) free)

felt_core : (d : BookState) (asked : Asked) (felt : Option Mark) (q : Plan)
    → IsFelt (arrival_known d) d.plan asked q felt
    → IsFelt (arrival_in (core_of d)) d.plan asked q felt
felt_core d asked felt q h = subst (λ known. IsFelt known d.plan asked q felt) (arrives_same d) h

edit_revises : (d : BookState) (asked : Asked) (felt : Option Mark) (marks : List Mark)
    → refusal d.plan asked ≡ None
    → IsRightBook d → BookFeels d asked felt → IsSound (changed d.plan asked).plan
    → AreMarksOf (changed d.plan asked).plan marks
    → Revises asked d (after_edit d (changed d.plan asked).plan felt marks)
edit_revises d asked felt marks free right is_felt sound are =
    let q = (changed d.plan asked).plan in
    let e = after_edit d q felt marks in
    let keeps = edit_keeps d asked felt marks right
    (may_be_felt (arrival_known d) d.plan q asked felt is_felt) are in (
      record { felt = felt; is = is_felt; keeps = keeps },
      record {
        core = subst IsRightCore (sym (edited_core d asked felt e free refl keeps))
            (edits_right_on (core_of d) asked felt right.core (λ _. sound)
            (felt_core d asked felt q is_felt));
        marks = subst (AreMarksOf q)
            (sym (keys-remade mark_rank (mark_stays q.branches felt) d.arrivals marks)) are;
        bookmarks = keys-remade bookmark_rank (bookmark_stays q.branches felt) d.texts q.bookmarks;
        out = λ need job out.
            assumption (right.out need job (kept_out asked felt d e need job keeps out));
      },
    )

-- rows that were made of a book's rows after an edit
pub revises : (d : BookState) (q : Plan) (asked : Asked) (edited : Edited) (felt : Option Mark) (rows : Rows)
    → IsRightBook d → change d.plan asked ≡ Ok (made q edited) → BookFeels d asked felt
    → AreRemade q d.arrivals d.texts felt rows
    → Revises asked d (with_rows d q rows.arrivals.items rows.texts.items)
revises d q asked edited felt rows right is is_felt h =
    subst (Revises asked d) (sym (ap₂ (with_rows d q) h.arrivals_are h.texts_are))
    (subst (λ (c : Changed). IsSound c.plan → AreMarksOf c.plan h.marks
    → Revises asked d (after_edit d c.plan felt h.marks))
    (accepted (refusal d.plan asked) (changed d.plan asked) (made q edited) is)
    (edit_revises d asked felt h.marks
    (unrefused (refusal d.plan asked) (changed d.plan asked) (made q edited) is) right is_felt) h.sound h.are)

-- the edit is an event of the law, and so is what was recalled behind it
pub edits_call : (old kept new : BookState) (asked : Asked) (edited : Edited) → MayBeAsked asked
    → change old.plan asked ≡ Ok (made kept.plan edited) → KeepsUnfelt asked old kept → EntersSteps kept new
    → IsEdit asked old new
edits_call old kept new asked edited may is h recalls =
    let felt = h.felt in
    let free = unrefused (refusal old.plan asked) (changed old.plan asked) (made kept.plan edited) is in
    let after = ap (λ (c : Changed). c.plan)
    (accepted (refusal old.plan asked) (changed old.plan asked) (made kept.plan edited) is) in
    record {
      felt = felt;
      event = record {
        can = record {
          rule = may;
          felt_there = felt_core old asked felt (changed old.plan asked).plan
              (subst (λ q. IsFelt (arrival_known old) old.plan asked q felt) (sym after) h.is);
        };
        true_one = tt;
        follows = recalls_follow (edits asked felt) (core_of old) kept new
            (edited_core old asked felt kept free (sym after) h.keeps) recalls;
      };
    }
