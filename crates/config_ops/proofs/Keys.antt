-- Keys in byte order, and what stands at a key.
use Rattle.std.proofs.Common.{◌≡◌, ℕ, List, None, Ordering, Less, Equal, Greater, nat_cmp, refl, sym, ap, ◌∙◌}
use Rattle.std.proofs.lemmas.Cmp.{tied_itself}
use Rattle.std.specs.Ordering.{ordering_reverse}
use Rattle.std.specs.Cmp.Lexicographic.{slice_cmp, nat_list_cmp_total}
use Rattle.serde_json.specs.Data.{Members, no_members, member}
use Rattle.serde_json.specs.Find.{get_member}
use Rattle.tree_core.specs.Regular.{IsBelowAll}
pub use Rattle.tree_core.proofs.Halves.{same_key, above}

pub itself : (k : List ℕ) → slice_cmp nat_cmp k k ≡ Equal
itself k = tied_itself nat_list_cmp_total k

pub apart : (o : Ordering) (k l : List ℕ) → slice_cmp nat_cmp k l ≡ o → (o ≡ Equal → ⊥) → k ≡ l → ⊥
apart o k l is other same = other (sym is ∙ ap (λ x. slice_cmp nat_cmp x l) same ∙ itself l)

pub below : (k l : List ℕ) → slice_cmp nat_cmp k l ≡ Greater → slice_cmp nat_cmp l k ≡ Less
below k l is = nat_list_cmp_total.antisymm l k ∙ ap ordering_reverse is

pub none_below : (k : List ℕ) (ms : Members) → IsBelowAll k ms → get_member k ms ≡ None
none_below k no_members h = refl
none_below k (member l d ms) h = rw h.0 (none_below k ms h.1)
