use Rattle.hash_engine.proofs.Names.{[], ap, fours_of, length, lit<, map, middle, one, rules, square_of, subst, sym, ℕ, ◌<◌, ◌∙◌, ◌∷◌, ◌≡◌}
use Rattle.hash_engine.proofs.Standing.{kids_in, nine_at}
use Rattle.hash_engine.proofs.parts.middles.Goals as goal

pub returns : goal.returns
returns c = λ k ss are.
    let long : length c.args.nine ≡ 9 = search rules in
    let low : (j : ℕ) → j < 9 → j < length c.args.nine = λ j below. subst (λ l. j < l) (sym long) below in
    let a = kids_in are 0 (low 0 (lit< tt)) c.quadrants.ensures in
    let b = kids_in are 1 (low 1 (lit< tt)) c.quadrants-2.ensures in
    let c' = kids_in are 2 (low 2 (lit< tt)) c.quadrants-3.ensures in
    let d = kids_in are 3 (low 3 (lit< tt)) c.quadrants-4.ensures in
    let e = kids_in are 4 (low 4 (lit< tt)) c.quadrants-5.ensures in
    let f = kids_in are 5 (low 5 (lit< tt)) c.quadrants-6.ensures in
    let g = kids_in are 6 (low 6 (lit< tt)) c.quadrants-7.ensures in
    let h = kids_in are 7 (low 7 (lit< tt)) c.quadrants-8.ensures in
    let i = kids_in are 8 (low 8 (lit< tt)) c.quadrants-9.ensures in
    let of = square_of c.args.table.now.rows k in
    let all : ss ≡ of c.quadrants.result ∷ of c.quadrants-2.result ∷ of c.quadrants-3.result ∷ of c.quadrants-4.result ∷ of c.quadrants-5.result
    ∷ of c.quadrants-6.result ∷ of c.quadrants-7.result ∷ of c.quadrants-8.result ∷ of c.quadrants-9.result ∷ [] =
    nine_at ss (one 0) (sym are.count ∙ long) ∙ cc (a.1, b.1, c'.1, d.1, e.1, f.1, g.1, h.1, i.1) in
    record {
      nw = record { nw = a.0.se; ne = b.0.sw; sw = d.0.ne; se = e.0.nw };
      ne = record { nw = b.0.se; ne = c'.0.sw; sw = e.0.ne; se = f.0.nw };
      sw = record { nw = d.0.se; ne = e.0.sw; sw = g.0.ne; se = h.0.nw };
      se = record { nw = e.0.se; ne = f.0.sw; sw = h.0.ne; se = i.0.nw };
      are = ap (λ l. map middle (fours_of l)) all;
    }
