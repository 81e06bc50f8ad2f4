-- Whether there are backs, as the flags of a spare tell it.
use Rattle.std.proofs.Common.{◌≡◌, ℕ, Bool, true, false, List, [], ◌∷◌, map, take, length, Option, Some, None, sym, subst, is_some}
use Rattle.std.specs.Prelude.{IsTrue, ◌↔◌, if◌then◌else◌}
use Rattle.std.specs.List.{AllByRecursion}
use Rattle.std.specs.Option.{IfSome, IsSomeAnd}
use Rattle.std.specs.Str.{bytes_eq}
use Rattle.nuc_base.specs.declared.platform.Platform.{Platform}
use Rattle.records.specs.Stored.{Item}
use Rattle.records.specs.declared.record.Origin.{Origin}
use Rattle.device.specs.Devices.{Pending, chosen}
use Rattle.device.specs.Lawful.{HasBacks, IsReadable, backs, goes_back, item_named, reach_of}
use Rattle.device.specs.Plans.{HasRecipe, HasSomeRecipe}
use Rattle.device.specs.Sound.{AreItemsFor, IsPlanFor}
use Rattle.device.specs.Spares.{FlagBacks}
use Rattle.device.proofs.Flags.{chosen_told}

-- an item of a sound set has a recipe
is_readable : (platform : Platform) (items : List Item) (n : List ℕ) → AllByRecursion (HasRecipe platform) items → IsReadable platform items n
is_readable platform [] n h = tt
is_readable platform (i ∷ items) n h = by (bytes_eq n i.name) (is_readable platform items n h.1)
  where
    by : (b : Bool) → IsReadable platform items n → IfSome (if b then Some i else item_named n items) (λ (i : Item). HasSomeRecipe platform i.recipe)
    by true rest = (h.0.0, h.0.1.reads)
    by false rest = rest

are_readable : (platform : Platform) (items : List Item) (names : List (List ℕ)) → AllByRecursion (HasRecipe platform) items →
    AllByRecursion (IsReadable platform items) names
are_readable platform items [] h = tt
are_readable platform items (n ∷ names) h = (is_readable platform items n h, are_readable platform items names h)

abbrev Some-backs : Option Origin → List Item → Pending → Type 0
Some-backs origin set q = backs origin set q.plan (reach_of q) ≡ [] → ⊥

-- with an origin, the chosen are the backs, and all boots are readable
pub told_by : (origin : Option Origin) (set : List Item) (q : Pending) (flags : List Bool) (b : Bool) → AreItemsFor origin set → IsPlanFor origin q.plan →
    IfSome origin (FlagBacks set q.plan.boots flags)
    → IsTrue b ↔ (chosen flags (take (reach_of q) q.plan.boots) ≡ [] → ⊥)
    → (IsTrue b ↔ Some-backs origin set q) × (IsTrue b ↔ IsSomeAnd origin (HasBacks set q))
told_by None set q flags b items plan spared told = absurd plan
told_by (Some o) set q flags b items plan spared told =
    let readable = are_readable o.platform set q.plan.boots items.recipes in
    let same = chosen_told (goes_back o.platform set) flags q.plan.boots (reach_of q) (spared readable) in
    let known : IsTrue b ↔ Some-backs (Some o) set q = subst (λ (l : List (List ℕ)). IsTrue b ↔ (l ≡ [] → ⊥)) same told in
    (known, (λ yes. (readable, known.0 yes), λ has. known.1 has.1))
