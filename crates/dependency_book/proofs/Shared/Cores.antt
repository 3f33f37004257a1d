-- The desk of the law that a book shows.
use Rattle.dependency_book.proofs.Names.{BookState, Bookmark, Bool, Core, Empty, Expected, IfSome, IsRightBook, Job, Known, List, Need, Plan, PutsRow, RowState, Some, Value, View, World, ap, arith, arrival_in, arrival_known, arrival_row}
use Rattle.dependency_book.proofs.Names.{awaits, bookmark_in, core_of, expected, fun_ext, if◌then◌else◌, is_need, job_of, known, need_same, pattern, plain_row, refl, row_of, said_at, scratch, state_map, subst, sym, text, text_row}
use Rattle.dependency_book.proofs.Names.{text_wanted, wanted, ℕ, ◌∙◌, ◌≡◌}
use Rattle.desk_events.specs.Core.{Row, put, world_in}
use Rattle.desk_events.specs.Entry.{Entry, value}
use Rattle.desk_events.specs.Right.{Stands}
use Rattle.desk_events.proofs.Shared.Gives.{Arrives}
use Rattle.desk_events.proofs.Shared.Right as right_core

abbrev pub core : Plan → List Entry → (Need → Row) → Core
core p es rows = record { plan = p; entries = es; rows = rows }

-- desks of equal parts
pub same_core : (p q : Plan) (es fs : List Entry) (r s : Need → Row) → p ≡ q → es ≡ fs
    → ((need : Need) → r need ≡ s need) → core p es r ≡ core q fs s
same_core p q es fs r s plan entries rows =
    ap (λ x. core x es r) plan ∙ ap (λ x. core q x r) entries ∙ ap (core q fs) (fun_ext rows)

pub plain_if : (b : Bool) (x y : RowState Value)
    → plain_row (if b then x else y) ≡ (if b then plain_row x else plain_row y)
plain_if b x y = grind arith

-- after something was put in a row
pub put_core : (d e : BookState) (need : Need) (s : RowState Value) → PutsRow need s d e
    → core_of e ≡ put need (plain_row s) (core_of d)
put_core d e need s puts =
    same_core e.plan d.plan e.entries d.entries (λ other. plain_row (row_of e other))
    (λ other. if is_need need other then plain_row s else plain_row (row_of d other)) puts.book.document.plan
    puts.book.entries
    (λ other. ap plain_row (puts.rows other) ∙ plain_if (is_need need other) s (row_of d other))

-- what a book knows to arrive, its desk does
pub arrives_same : (d : BookState) → arrival_known d ≡ arrival_in (core_of d)
arrives_same d = fun_ext (λ m. of_state (arrival_row d m))
  where
    of_state : (s : RowState World) → known s ≡ world_in (plain_row (state_map pattern s))
    of_state s = grind arith

pub known_arrives : (d : BookState) → IsRightBook d → Arrives (arrival_known d) d.plan
known_arrives d right =
    subst (λ f. Arrives f d.plan) (sym (arrives_same d)) (right_core.known_arrives (core_of d) right.core)

-- what is known is what is wanted
pub known_wanted : (d : BookState) (need : Need) (v : Value) → IsRightBook d → row_of d need ≡ Known v
    → wanted d.plan need ≡ Some v
known_wanted d need v right is =
    subst (Stands d.entries d.plan need) (ap plain_row is) (right.core.stands need)

-- a row that expects a job

pub expected_state : (d : BookState) (need : Need) (job : Job) → expected d need ≡ Some job
    → row_of d need ≡ Expected job
expected_state d need job out = of_state (row_of d need) out
  where
    of_state : (s : RowState Value) → job_of s ≡ Some job → s ≡ Expected job
    of_state s h = grind arith

pub awaited : (d : BookState) (need : Need) (job : Job) → expected d need ≡ Some job
    → (core_of d).rows need ≡ awaits job.number
awaited d need job out = ap plain_row (expected_state d need job out)

-- of one number there is one
pub once : (d : BookState) (a b : Need) (i j : Job) → IsRightBook d → expected d a ≡ Some i
    → expected d b ≡ Some j
    → i.number ≡ j.number → a ≡ b
once d a b i j right here there same =
    right.core.once a b i.number (awaited d a i here) (awaited d b j there ∙ ap awaits (sym same))

-- its entry gives what is wanted
pub expected_wants : (d : BookState) (need : Need) (job : Job) → IsRightBook d → expected d need ≡ Some job
    → wanted d.plan need ≡ Some (value (said_at job.place))
expected_wants d need job right out =
    let h = subst (Stands d.entries d.plan need) (awaited d need job out) (right.core.stands need) in
    let one : Some h.entry ≡ Some (said_at job.place) = sym h.there ∙ (right.out need job out).entry in
    let entry : h.entry ≡ said_at job.place = cc in
    h.gives ∙ ap (λ e. Some (value e)) entry

-- a text that is known is the one that starting over gives
pub text_scratch : (d : BookState) (id : ℕ) (b : Bookmark) → IsRightBook d
    → bookmark_in d.plan.bookmarks id ≡ Some b
    → IfSome (known (text_row d id)) (λ bytes. bytes ≡ scratch d.plan b)
text_scratch d id b right there = of_state (text_row d id) (λ v is. known_wanted d (View id) v right is)
  where
    of_state : (s : RowState (List ℕ))
        → ((v : Value) → state_map text s ≡ Known v → wanted d.plan (View id) ≡ Some v)
        → IfSome (known s) (λ bytes. bytes ≡ scratch d.plan b)
    of_state Empty wants = tt
    of_state (Expected job) wants = tt
    of_state (Known found) wants =
        let one : Some (text (scratch d.plan b)) ≡ Some (text found) = sym (ap (text_wanted d.plan) there)
        ∙ wants (text found) refl in
        let same : scratch d.plan b ≡ found = cc in
        sym same

-- what was put stands there
pub put_there : (need : Need) (row : Row) (c : Core) → (put need row c).rows need ≡ row
put_there need row c = rw (need_same need) refl
