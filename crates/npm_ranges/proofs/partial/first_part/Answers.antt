use Rattle.std.proofs.Common.{ℕ, ◌+◌, ◌-◌, List, length, take, drop, ◌∷◌, ◌∙◌, ap, arith, sym}
use Rattle.std.proofs.lemmas.List.{length-drop, take_all}
use Rattle.semver.specs.Order.{parts}
use Rattle.npm_ranges.proofs.Partials.{parts_end, parts_next}
use Rattle.npm_ranges.proofs.partial.first_part.Goals as goal

pub returns-in-Some : goal.returns-in-Some
returns-in-Some c =
    let text = c.args.text.now in
    let n = c.in-Some.end in
    let next = parts_next text n (sym c.in-Some.ensures) in
    next.1 ∙ ap (λ (rest : List ℕ). take n text ∷ parts rest) (sym (take_all (length text - (n + 1)) (drop (n + 1) text) (omega (
      arith,
      length-drop (n + 1) text,
    ))))

pub returns-in-None : goal.returns-in-None
returns-in-None c = parts_end c.args.text.now (sym c.in-None.ensures)
