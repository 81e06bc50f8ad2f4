use Rattle.std.proofs.Common.{◌≡◌, ◌∙◌, ℕ, ◌<◌, length, List, ◌∷◌, slice_index_or, refl, sym, ap, subst, arith}
use Rattle.test_host.proofs.children.left_by_the_older.Goals as goal

pub kill-requires : goal.kill-requires
kill-requires g c =
    let before = g.R.Runner.living c.args.runner.now in
    let both : g.R.Runner.living c.start-2.new.self ≡ c.in-Ok-start.newer ∷ c.in-Ok.older ∷ before =
    c.in-Ok-start.ensures.lives ∙ ap (λ (l : List ℕ). c.in-Ok-start.newer ∷ l) c.in-Ok.ensures.lives in
    subst (λ (l : List ℕ). (x : ℕ) × x < length l × slice_index_or l x c.in-Ok.older ≡ c.in-Ok.older) (sym both) (1, omega arith, refl)
