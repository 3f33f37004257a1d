use Rattle.multistate_rle.proofs.Names.{[], ap, arith, finished, on_ok_weaker, sym, zeros, ◌++◌, ◌∙◌, ◌∷◌, ◌≡◌}
use Rattle.multistate_rle.specs.declared.token.Token.TheVariants.{Run}
use Rattle.multistate_rle.proofs.body.Body.push_zeros.Goals as goal

pub returns : goal.returns
returns c =
    let some : zeros c.args.count ≡ Run c.args.count 0 ∷ [] = grind arith in
    on_ok_weaker c.push.result (λ written ts. written ts ∙ ap (λ zs. finished c.args.self.now (zs ++ ts)) (sym some)) c.push.ensures
