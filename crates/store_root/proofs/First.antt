-- The first entry of a journal, and what it names.
use Rattle.std.proofs.Common.{◌≡◌, ◌≢◌, ◌∙◌, ◌∷◌, [], ℕ, List, Option, Some, None, Ok, refl, sym, ap, subst, arith, get_or, length}
use Rattle.disk_model.specs.Disk.{Image}
use Rattle.gate_log.specs.Place.{IsEntryAt}
use Rattle.checkpoint_log.specs.Laws.{slots_laws}
use Rattle.checkpoint_log.specs.Slots.{slots_entries, slots_stands, slots_none, slots_damaged}
use Rattle.checkpoint_log.specs.declared.slots.Slots.{Slots}
use Rattle.records.specs.Layout.{Spelled}
use Rattle.store_root.specs.Roots.{root_named, NamedBy, NamesRoot, RootAnswer}

pub record First (payloads : List (List ℕ)) : Type 0 where
  pub first : List ℕ
  pub others : List (List ℕ)
  pub is : payloads ≡ first ∷ others

pub has_first : (payloads : List (List ℕ)) → payloads ≢ [] → First payloads
has_first [] some = absurd (some refl)
has_first (p ∷ ps) some = record { first = p; others = ps; is = refl }

-- it stands at the beginning
pub first_at : (log : Slots) (image : Image) (payloads : List (List ℕ)) → slots_stands log image payloads → (f : First payloads) →
    IsEntryAt slots_stands log image 0 f.first
first_at log image payloads stands f =
    record { before = []; after = f.others; on = subst (λ (ps : List (List ℕ)). slots_stands log image ps) f.is stands; at_is = refl }

abbrev is_there : Option (List ℕ) → ℕ
is_there None = 0
is_there (Some x) = 1

none_some : (o : Option (List ℕ)) (x : List ℕ) → o ≡ None → o ≡ Some x → ⊥
none_some o x none some =
    let same : 0 ≡ 1 = sym (ap is_there none) ∙ ap is_there some in
    absurd (omega (arith, same))

-- what its payload names is what the image's journal names
pub answers : (image : Image) (payloads : List (List ℕ)) → slots_entries image payloads → (f : First payloads) (root : Option (List ℕ)) → NamedBy f.first root →
    RootAnswer image (Ok root)
answers image payloads live f (Some root) named = λ others live_too. record {
  first = f.first;
  others = f.others;
  is = slots_laws.one image others payloads live_too live ∙ f.is;
  entry = named.0;
  spelled = named.1;
  named = named.2;
}
answers image payloads live f None none = λ others root live_too names.
    let same : f.first ∷ f.others ≡ names.first ∷ names.others = sym f.is ∙ slots_laws.one image payloads others live live_too ∙ names.is in
    let first : names.first ≡ f.first = sym (ap (λ (ps : List (List ℕ)). get_or ps 0 []) same) in
    none_some (root_named names.entry) root (none names.entry (subst (λ (p : List ℕ). Spelled p names.entry) first names.spelled)) names.named

-- a journal without an entry names none
pub none_named : (image : Image) → slots_none image → (payloads : List (List ℕ)) (root : List ℕ) → slots_entries image payloads → NamesRoot payloads root → ⊥
none_named image none payloads root live names =
    let same : names.first ∷ names.others ≡ [] = sym names.is ∙ slots_laws.one image payloads [] live (slots_laws.none_held image none) in
    absurd (omega (arith, ap length same))

-- nor does a damaged one
pub damaged_named : (image : Image) (at : ℕ) → slots_damaged image at → (payloads : List (List ℕ)) (root : List ℕ) → slots_entries image payloads →
    NamesRoot payloads root → ⊥
damaged_named image at damaged payloads root live names = slots_laws.not_damaged image at payloads damaged live
