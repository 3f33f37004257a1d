-- Texts that are being written: what they come to, once the rest is written too.
use Rattle.std.specs.Prelude.{ℕ, ◌++◌, List, ℤ, map}
use Rattle.worlds.specs.World.{Place}
use Rattle.multistate_rle.specs.declared.token.Token.{Token}
use Rattle.multistate_rle.specs.declared.body.Body.{Body}
use Rattle.multistate_rle.specs.declared.open_run.OpenRun.{OpenRun}
use Rattle.multistate_rle.specs.Token.{token_text, tokens, joined}
use Rattle.multistate_rle.specs.PatternText.{packed}

-- the whole text, if these tokens are still to come
abbrev pub finished : Body → List Token → List ℕ
finished b ts = b.text.items ++ packed b.room (map (token_text b.states) ts)

-- the tokens of an open run and of the cells behind it
abbrev pub tokens_on : ℤ → OpenRun → List (Place × ℕ) → List Token
tokens_on left r cells = joined r.count r.state (tokens left (r.y, r.next) cells)
