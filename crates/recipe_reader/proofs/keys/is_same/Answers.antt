use Rattle.std.proofs.Common.{sym, true, false, ◌≡◌, Bool, refl, map}
use Rattle.std.specs.Char.{to_ascii_lowercase}
use Rattle.std.specs.Cmp.Lexicographic.{bytes_decides}
use Rattle.recipe_reader.specs.Keys.{is_same}
use Rattle.recipe_reader.proofs.keys.is_same.Goals as goal

same_bool : (a b : Bool) → (a ≡ true → b ≡ true) → (b ≡ true → a ≡ true) → a ≡ b
same_bool true true f g = refl
same_bool true false f g = sym (f refl)
same_bool false true f g = g refl
same_bool false false f g = refl

pub returns : goal.returns
returns c =
    let k = map to_ascii_lowercase c.args.key.now in
    let l = map to_ascii_lowercase c.args.other.now in
    let d = bytes_decides k l in
    same_bool _ (is_same c.args.key.now c.args.other.now) (λ h. d.1 (c.eq_ignore_ascii_case.ensures.test.0 h)) (λ h. c.eq_ignore_ascii_case.ensures.test.1
    (d.0 h))
