-- The documents that are left.
use Rattle.std.proofs.Common.{◌≡◌, ◌-◌, ◌+◌, ℕ, List, [], ◌∷◌, Bool, true, false, length, drop, refl, sym, ◌∙◌, ap, arith, length-drop}
use Rattle.std.proofs.lemmas.List.{drop-drop}
use Rattle.folder_edges.specs.declared.listing.Entry.{Entry}
use Rattle.folder_edges.specs.Entries.{marked}

length_marked : (b : Bool) (entries : List Entry) → length (marked b entries) ≡ length entries
length_marked false entries = refl
length_marked true [] = refl
length_marked true (e ∷ entries) = refl

drop_marked : (b : Bool) (entries : List Entry) → drop 1 (marked b entries) ≡ drop 1 entries
drop_marked false entries = refl
drop_marked true [] = refl
drop_marked true (e ∷ entries) = refl

pub length_left : (entries now : List Entry) (n at : ℕ) (b : Bool) → n ≡ length entries → marked b (drop at entries) ≡ now → n - at ≡ length now
length_left entries now n at b is view = let e = ap length view in omega (arith, is, e, length_marked b (drop at entries), length-drop at entries)

pub without_first : (entries now : List Entry) (at : ℕ) (b : Bool) → marked b (drop at entries) ≡ now → drop (at + 1) entries ≡ drop 1 now
without_first entries now at b view = sym (drop-drop 1 at entries) ∙ sym (drop_marked b (drop at entries)) ∙ ap (λ (l : List Entry). drop 1 l) view
