-- Readings, one after another: what they tell where they give a value, and where none runs out of memory.
use Rattle.std.proofs.Common.{◌≡◌, ◌≢◌, Bool, true, false, Option, Some, None, Result, Ok, Err, IsErrAnd, option_map, ok_or, if◌then◌else◌, refl, ap, ◌∙◌}
use Rattle.basics.specs.Results.{◌>>=◌}
use Rattle.rule_file.specs.declared.fault.RuleFault.{RuleFault}
use Rattle.rule_file.specs.declared.fault.RuleFault.TheVariants.{NoMemory}

pub same_value : {A : Type 0} (x y : A) → ◌≡◌ {A = Result A RuleFault} (Ok x) (Ok y) → x ≡ y
same_value x y h = cc

-- what was read before, where a reading gives a value
pub then-ok : {A B : Type 0} (r : Result A RuleFault) (f : A → Result B RuleFault) (y : B) → (r >>= f) ≡ Ok y → (x : A) × (r ≡ Ok x) × (f x ≡ Ok y)
then-ok (Ok x) f y h = (x, refl, h)
then-ok (Err e) f y h = absurd cc

pub some-ok : {A : Type 0} (o : Option A) (e : RuleFault) (x : A) → ◌≡◌ {A = Result A RuleFault} (ok_or o e) (Ok x) → o ≡ Some x
some-ok None e x h = absurd cc
some-ok (Some y) e x h = cc

pub map-some : {A B : Type 0} (f : A → B) (o : Option A) (y : B) → option_map f o ≡ Some y → (x : A) × (o ≡ Some x) × (f x ≡ y)
map-some f None y h = absurd cc
map-some f (Some x) y h = (x, refl, cc)

-- a reading that wants no memory
abbrev pub WantsNone : {A : Type 0} → Result A RuleFault → Type 0
WantsNone {A} r = ◌≢◌ {A = Result A RuleFault} r (Err NoMemory)

-- so a call that hands on such a fault doesn't say that memory ran out
pub handed_on : {A B : Type 0} (result : Result A RuleFault) (read : Result B RuleFault) (e : RuleFault) → IsErrAnd result (λ f. f ≡ e) → read ≡ Err e → WantsNone read → result ≢ Err NoMemory
handed_on (Ok x) read e is at none h = absurd is
handed_on (Err f) read e is at none h = let wanted : e ≡ NoMemory = cc in none (at ∙ ap Err wanted)

-- the second gives what the first gives, where that gives something
abbrev pub GivesToo : {A : Type 0} → Result A RuleFault → Result A RuleFault → Type 0
GivesToo {A} r q = (x : A) → r ≡ Ok x → q ≡ Ok x

-- steps one after another
pub then_too : {A B : Type 0} (r q : Result A RuleFault) (f g : A → Result B RuleFault) → GivesToo r q → ((x : A) → GivesToo (f x) (g x)) → GivesToo (r >>= f) (q >>= g)
then_too (Ok x) q f g first later y h = ap (λ p. p >>= g) (first x refl) ∙ later x y h
then_too (Err e) q f g first later y h = absurd cc

pub ok_or-too : {A : Type 0} (o : Option A) (d e : RuleFault) → GivesToo (ok_or o d) (ok_or o e)
ok_or-too (Some x) d e y h = h
ok_or-too None d e y h = absurd cc

pub unless-too : {A : Type 0} (b : Bool) (r q : Result A RuleFault) (d e : RuleFault) → GivesToo r q → GivesToo (if b then r else Err d) (if b then q else Err e)
unless-too true r q d e both y h = both y h
unless-too false r q d e both y h = absurd cc
