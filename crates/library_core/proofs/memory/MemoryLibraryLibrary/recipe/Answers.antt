use Rattle.std.proofs.Common.{◌<◌, ℕ, List, length, sym, subst, refl}
use Rattle.library_core.proofs.memory.MemoryLibraryLibrary.recipe.Goals as goal

pub prefix_of-requires : goal.prefix_of-requires
prefix_of-requires c = subst (λ (l : List (List ℕ)). c.args.at < length l) (sym c.as_slice.ensures) (c.requires _ refl)
