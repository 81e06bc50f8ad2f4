use Rattle.std.proofs.Common.{◌≡◌, ℕ, List, ◌∷◌, Option, Some, None, ◌∙◌, ap, refl, sym}
use Rattle.npm_ranges.specs.Grammar.{Spelled}
use Rattle.std.specs.Borrow.{Bor}
use Rattle.std.specs.Option.{option_map}
use Rattle.semver.specs.Order.{parts}
use Rattle.npm_ranges.specs.Views.{parts_behind, spelled}
use Rattle.npm_ranges.proofs.Partials.{no_first, no_second, no_third, one_part, three_parts, too_many, two_parts}
use Rattle.npm_ranges.proofs.partial.parts_partial.Goals as goal

-- the parts behind the first, where the rest is known
behind : (text first : List ℕ) (rest other : Option (Bor (List ℕ))) → parts text ≡ first ∷ parts_behind rest → rest ≡ other → parts text ≡ first
    ∷ parts_behind other
behind text first rest other is same = is ∙ ap (λ (r : Option (Bor (List ℕ))). first ∷ parts_behind r) same

pub returns-in_err-first : goal.returns-in_err-first
returns-in_err-first c =
    let f = c.first_part.result in
    ap (option_map spelled) c.from_residual.ensures ∙ sym (no_first (parts c.args.text.now) f.0.now (parts_behind f.1) c.first_part.ensures
    (sym c.in_err-first.ensures))

pub returns-in_default : goal.returns-in_default
returns-in_default c =
    let f = c.first_part.result in
    ap Some c.partial.ensures ∙ one_part (parts c.args.text.now) f.0.now c.in_ok-first.first (behind c.args.text.now f.0.now f.1 None c.first_part.ensures
    c.in_default.is) (sym c.in_ok-first.ensures)

-- the parts behind the second
behind_two : (text first middle second : List ℕ) (rest next other : Option (Bor (List ℕ))) → parts text ≡ first ∷ parts_behind rest → (b : Bor (List ℕ)) →
    rest ≡ Some b → b.now ≡ middle
    → parts middle ≡ second ∷ parts_behind next → next ≡ other → parts text ≡ first ∷ second ∷ parts_behind other
behind_two text first middle second rest next other is b at here more same =
    behind text first rest (Some b) is at ∙ ap (λ (m : List ℕ). first ∷ parts m) here ∙ ap (λ (ps : List (List ℕ)). first
    ∷ ps) (behind middle second next other more same)

pub returns-in_err-second : goal.returns-in_err-second
returns-in_err-second c =
    let f = c.first_part.result in
    let s = c.first_part-2.result in
    let whole = behind_two c.args.text.now f.0.now c.in-Some.rest.now s.0.now f.1 s.1 s.1 c.first_part.ensures c.in-Some.rest c.in-Some.is refl
    c.first_part-2.ensures refl in
    ap (option_map spelled) c.from_residual-in_err-second.ensures
    ∙ sym (no_second (parts c.args.text.now) f.0.now s.0.now (parts_behind s.1) c.in_ok-first.first whole (sym c.in_ok-first.ensures)
    (sym c.in_err-second.ensures))

pub returns-in_default-rest : goal.returns-in_default-rest
returns-in_default-rest c =
    let f = c.first_part.result in
    let s = c.first_part-2.result in
    let whole = behind_two c.args.text.now f.0.now c.in-Some.rest.now s.0.now f.1 s.1 None c.first_part.ensures c.in-Some.rest c.in-Some.is refl
    c.first_part-2.ensures c.in_default-rest.is in
    ap (λ (p : Spelled). Some p) c.partial-in_default-rest.ensures
    ∙ two_parts (parts c.args.text.now) f.0.now s.0.now c.in_ok-first.first c.in_ok-second.second whole (sym c.in_ok-first.ensures) (sym c.in_ok-second.ensures)

-- the parts behind the third
behind_three : (text first second third : List ℕ) (rest next last other : Option (Bor (List ℕ))) → parts text ≡ first ∷ parts_behind rest →
    (b d : Bor (List ℕ)) → rest ≡ Some b
    → parts b.now ≡ second ∷ parts_behind next → next ≡ Some d → parts d.now ≡ third ∷ parts_behind last → last ≡ other → parts text ≡ first ∷ second ∷ third
    ∷ parts_behind other
behind_three text first second third rest next last other is b d at more there most same =
    behind_two text first b.now second rest next (Some d) is b at refl more there ∙ ap (λ (ps : List (List ℕ)). first ∷ second
    ∷ ps) (behind d.now third last other most same)

pub returns-in_err-third : goal.returns-in_err-third
returns-in_err-third c =
    let f = c.first_part.result in
    let s = c.first_part-2.result in
    let t = c.first_part-3.result in
    let whole = behind_three c.args.text.now f.0.now s.0.now t.0.now f.1 s.1 t.1 t.1 c.first_part.ensures c.in-Some.rest c.in-Some-rest.rest c.in-Some.is
    c.first_part-2.ensures c.in-Some-rest.is c.first_part-3.ensures refl in
    ap (option_map spelled) c.from_residual-in_err-third.ensures
    ∙ sym (no_third (parts c.args.text.now) f.0.now s.0.now t.0.now (parts_behind t.1) c.in_ok-first.first c.in_ok-second.second whole
    (sym c.in_ok-first.ensures) (sym c.in_ok-second.ensures) (sym c.in_err-third.ensures))

pub returns-in-Some-rest-2 : goal.returns-in-Some-rest-2
returns-in-Some-rest-2 c =
    let f = c.first_part.result in
    let s = c.first_part-2.result in
    let t = c.first_part-3.result in
    let whole = behind_three c.args.text.now f.0.now s.0.now t.0.now f.1 s.1 t.1 (Some c.in-Some-rest-2.field-0) c.first_part.ensures c.in-Some.rest
    c.in-Some-rest.rest c.in-Some.is c.first_part-2.ensures c.in-Some-rest.is c.first_part-3.ensures c.in-Some-rest-2.is in
    sym (too_many (parts c.args.text.now) f.0.now s.0.now t.0.now c.in-Some-rest-2.field-0.now whole)

pub returns-in-None : goal.returns-in-None
returns-in-None c =
    let f = c.first_part.result in
    let s = c.first_part-2.result in
    let t = c.first_part-3.result in
    let whole = behind_three c.args.text.now f.0.now s.0.now t.0.now f.1 s.1 t.1 None c.first_part.ensures c.in-Some.rest c.in-Some-rest.rest c.in-Some.is
    c.first_part-2.ensures c.in-Some-rest.is c.first_part-3.ensures c.in-None.is in
    ap (λ (p : Spelled). Some p) c.partial-in-None.ensures
    ∙ three_parts (parts c.args.text.now) f.0.now s.0.now t.0.now c.in_ok-first.first c.in_ok-second.second c.in_ok-third.third whole
    (sym c.in_ok-first.ensures) (sym c.in_ok-second.ensures) (sym c.in_ok-third.ensures)
