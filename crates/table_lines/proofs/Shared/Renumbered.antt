-- Lines that say a table say it under other numbers too.
use Rattle.table_lines.proofs.Names.{BadVariable, Bool, Described, Descriptor, Err, GivesToo, Head, List, NumberedLine, NumbersDoNotMatter, Ok, Result, RuleFault, Table, Variables, [], ap, arith, defines_variable, definition_in, describe}
use Rattle.table_lines.proofs.Names.{descriptor_of, each, head_from, head_of, headed, if◌then◌else◌, is_some, map, nat_tests, no_variables, ok_or-too, set_of, then_too, transition_of, transitions_of, undescribed, unless-too}
use Rattle.table_lines.proofs.Names.{variables_after, ℕ, ◌>>=◌, ◌∷◌, ◌≡◌}
use Rattle.table_lines.proofs.Steps.{step-too}

each-too : {A B : Type 0} (f g : A → Result B RuleFault) → ((x : A) → GivesToo (f x) (g x)) → (xs : List A) → GivesToo (each f xs) (each g xs)
each-too f g both [] = λ ys h. h
each-too f g both (x ∷ xs) = then_too (f x) (g x) _ _ (both x) (λ y. then_too (each f xs) (each g xs) _ _ (each-too f g both xs) (λ zs ws k. k))

describe-too : (d : Described) (m n : ℕ) (x : Descriptor) (value : List ℕ) → GivesToo (describe d m x value) (describe d n x value)
describe-too d m n x value e h = grind arith

set_of-too : (states : ℕ) (variables : Variables) (m n : ℕ) (members : List (List ℕ)) → GivesToo (set_of states variables m members) (set_of states variables n members)
set_of-too states variables m n members = grind (arith, then_too, each-too, ok_or-too, unless-too)

variables_after-too : (head : Head) (variables : Variables) (m n : ℕ) (text : List ℕ)
    → GivesToo (variables_after head variables (record { number = m; text = text })) (variables_after head variables (record { number = n; text = text }))
variables_after-too head variables m n text =
    then_too _ _ _ _ (ok_or-too (definition_in text) (BadVariable m) (BadVariable n)) (λ definition.
    then_too _ _ _ _ (set_of-too head.states variables m n definition.1) (λ set more k. k))

transition_of-too : (head : Head) (variables : Variables) (m n : ℕ) (text : List ℕ)
    → GivesToo (transition_of head variables (record { number = m; text = text })) (transition_of head variables (record { number = n; text = text }))
transition_of-too head variables m n text = grind (arith, nat_tests, unless-too, then_too, each-too)

abbrev texts : List NumberedLine → List (List ℕ)
texts lines = map (λ line. line.text) lines

-- what comes of a line, by what it is
kind-too : {A : Type 0} (descriptor defines : Bool) (d e : RuleFault) (r q s t : Result A RuleFault) → GivesToo r q → GivesToo s t
    → GivesToo (if descriptor then Err d else (if defines then r else s)) (if descriptor then Err e else (if defines then q else t))
kind-too descriptor defines d e r q s t first second y h = grind arith

transitions_of-too : (head : Head) (lines others : List NumberedLine) (variables : Variables) → texts lines ≡ texts others → GivesToo (transitions_of head variables lines) (transitions_of head variables others)
transitions_of-too head [] [] variables same = λ ts h. h
transitions_of-too head [] (other ∷ others) variables same = λ ts h. absurd cc
transitions_of-too head (line ∷ lines) [] variables same = λ ts h. absurd cc
transitions_of-too head (line ∷ lines) (other ∷ others) variables same =
    let text : other.text ≡ line.text = cc in
    let rest : texts lines ≡ texts others = cc in
    rw text
    (kind-too (is_some (descriptor_of line.text)) (defines_variable line.text) _ _ _ _ _ _
    (then_too (variables_after head variables line) _ _ _ (variables_after-too head variables line.number other.number line.text)
    (λ more. transitions_of-too head lines others more rest))
    (then_too (transition_of head variables line) _ _ _ (transition_of-too head variables line.number other.number line.text) (λ u.
    then_too (transitions_of head variables lines) (transitions_of head variables others) _ _ (transitions_of-too head lines others variables rest) (λ us ws k. k))))

-- the table of a head and of the lines behind it
abbrev after : Head × List NumberedLine → Result Table RuleFault
after found = transitions_of found.0 no_variables found.1 >>= λ ts. Ok (headed found.0 ts)

-- other lines behind the same head say it too
after-too : (r : Result Head RuleFault) (lines others : List NumberedLine) → texts lines ≡ texts others
    → GivesToo ((r >>= λ head. Ok (head, lines)) >>= after) ((r >>= λ head. Ok (head, others)) >>= after)
after-too r lines others same = grind (arith, then_too, transitions_of-too)

head_from-too : (lines others : List NumberedLine) (d : Described) → texts lines ≡ texts others → GivesToo (head_from d lines >>= after) (head_from d others >>= after)
head_from-too [] [] d same = λ table h. h
head_from-too [] (other ∷ others) d same = absurd cc
head_from-too (line ∷ lines) [] d same = absurd cc
head_from-too (line ∷ lines) (other ∷ others) d same =
    let text : other.text ≡ line.text = cc in
    let rest : texts lines ≡ texts others = cc in
    rw text
    (step-too (descriptor_of line.text) _ (λ e. head_from e lines) _ _ (λ e. head_from e others) _ after
    (λ x. describe-too d line.number other.number x.0 x.1)
    (λ e. head_from-too lines others e rest)
    (after-too (head_of d) (line ∷ lines) _ (ap (λ more. line.text ∷ more) rest)))

pub lines_of-renumbered : NumbersDoNotMatter
lines_of-renumbered lines others table same h = head_from-too lines others undescribed same table h
