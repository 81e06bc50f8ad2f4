use Rattle.std.proofs.Common.{◌≡◌, ◌∙◌, ◌∷◌, ℕ, ◌<◌, List, Contains, length, ap, sym, subst, refl, arith}
use Rattle.test_host.proofs.children.kills_of_two.Goals as goal

is_second : (a b : ℕ) (xs : List ℕ) → Contains (a ∷ b ∷ xs) b
is_second a b xs = (1, (omega arith), refl)

pub kill-requires : goal.kill-requires
kill-requires g c =
    let total = c.in-Ok-Ok.ensures'.lives ∙ ap (λ (l : List ℕ). c.in-Ok-Ok.second ∷ l) c.in-Ok-Ok.ensures.lives in
    subst (λ (l : List ℕ). Contains l c.in-Ok-Ok.first) (sym total) (is_second c.in-Ok-Ok.second c.in-Ok-Ok.first (g.R.Runner.living c.args.runner.now))
