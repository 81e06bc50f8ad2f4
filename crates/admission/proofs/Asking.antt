-- What groups ask, and what is wanted of candidates for them.
use Rattle.std.proofs.Common.{◌≡◌, Bool, true, false, List, [], ◌∷◌, map, refl, sym, subst, inl, inr, ℕ}
use Rattle.std.specs.Prelude.{if◌then◌else◌}
use Rattle.std.specs.List.{All, AllByRecursion, Contains, IsDistinct, flat_map}
use Rattle.std.specs.Str.{bytes_eq}
use Rattle.std.proofs.lemmas.List.Concat.{flat_map-cons}
use Rattle.std.proofs.lemmas.List.Elements.{All-contains, Contains-append_left, Contains-append_right}
use Rattle.std.proofs.lemmas.Map.Keys.{IsDistinct-head, IsDistinct-tail}
use Rattle.std.proofs.lemmas.Slice.Eq.{bytes_eq-Decides}
use Rattle.nuc_base.proofs.Lists.{from_map, in_cons, in_here, in_map, in_nil, in_there}
use Rattle.recipe_reader.specs.Members.{Member, Need}
use Rattle.recipe_reader.specs.Sets.{IsMet}
use Rattle.records.specs.declared.record.Requirement.{Requirement}
use Rattle.deployment_doc.specs.declared.document.Document.{Document}
use Rattle.device.specs.Devices.{Group}
use Rattle.device.specs.Grouped.{put_group}
use Rattle.device.specs.Sound.{arns}
use Rattle.plan_core.specs.Requests.{asked_beside, requirement_need, root_need, root_requirement, wanted_of}

-- ---- lists

pub in_flat : {X Y : Type 0} (f : X → List Y) (xs : List X) (x : X) (y : Y) → Contains xs x → Contains (f x) y → Contains (flat_map f xs) y
in_flat f [] x y among has = absurd (in_nil x among)
in_flat {Y = Y} f (z ∷ xs) x y among has =
    subst (λ (l : List Y). Contains l y) (sym (flat_map-cons f z xs)) (elim (in_cons z xs x among) [
      | inl here ↦ Contains-append_left (f z) (flat_map f xs) y (subst (λ w. Contains (f w) y) (sym here) has)
      | inr there ↦ Contains-append_right (f z) (flat_map f xs) y (in_flat f xs x y there has)
    ])

-- ---- groups

-- the groups of other names and the new one, where no name stands twice
module _ (P : Group → Type 0) (new : Group) (here : P new) where
  others_hold : (g : Group) (groups : List Group) → ((h : Group) → Contains groups h → bytes_eq new.arn h.arn ≡ false → P h)
      → new.arn ≡ g.arn → AllByRecursion (λ (n : List ℕ). bytes_eq g.arn n ≡ false) (arns groups) → AllByRecursion P groups
  others_hold g [] others same differ = tt
  others_hold g (h ∷ groups) others same differ = (
    others h (in_here h groups) (subst (λ (n : List ℕ). bytes_eq n h.arn ≡ false) (sym same) differ.0),
    others_hold g groups (λ k among. others k (in_there h groups k among)) same differ.1,
  )

  put_by : (g : Group) (groups : List Group) → ((h : Group) → Contains (g ∷ groups) h → bytes_eq new.arn h.arn ≡ false → P h)
      → IsDistinct bytes_eq (arns (g ∷ groups)) → AllByRecursion P (put_group groups new)
      → (b : Bool) → bytes_eq new.arn g.arn ≡ b → AllByRecursion P (if b then new ∷ groups else g ∷ put_group groups new)
  put_by g groups others differ rest true is = (
    here,
    others_hold g groups (λ h among. others h (in_there g groups h among)) ((bytes_eq-Decides new.arn g.arn).0 is)
        (IsDistinct-head bytes_eq g.arn (arns groups) differ),
  )
  put_by g groups others differ rest false is = (others g (in_here g groups) is, rest)

  pub put_holds : (groups : List Group) → ((h : Group) → Contains groups h → bytes_eq new.arn h.arn ≡ false → P h)
      → IsDistinct bytes_eq (arns groups) → AllByRecursion P (put_group groups new)
  put_holds [] others differ = (here, tt)
  put_holds (g ∷ groups) others differ =
      put_by g groups others differ
      (put_holds groups (λ h among. others h (in_there g groups h among)) (IsDistinct-tail bytes_eq g.arn (arns groups) differ))
      (bytes_eq new.arn g.arn) refl

-- ---- what is wanted

-- what is wanted for them is met by the set
module _ (ms : List Member) (set : List ℕ) (groups : List Group) (document : Document)
    (met : All (λ w. IsMet ms set w.name w.range) (wanted_of groups document)) where
  wanted_met : (w : Need) → Contains (wanted_of groups document) w → IsMet ms set w.name w.range
  wanted_met w among = All-contains (λ (x : Need). IsMet ms set x.name x.range) (wanted_of groups document) w met among

  beside_has : (g : Group) (r : Requirement) → Contains g.requirements r → (b : Bool) → b ≡ false →
      Contains (if b then [] else map requirement_need g.requirements) (requirement_need r)
  beside_has g r has true is = cc
  beside_has g r has false is = in_map requirement_need g.requirements r has

  -- of another group
  pub other_met : (g : Group) (r : Requirement) → Contains groups g → bytes_eq document.group g.arn ≡ false → Contains g.requirements r →
      IsMet ms set r.name r.range
  other_met g r among other has =
      wanted_met (requirement_need r) (Contains-append_left (flat_map (asked_beside document.group) groups) (map root_need document.roots) (requirement_need r)
      (in_flat (asked_beside document.group) groups g (requirement_need r) among (beside_has g r has (bytes_eq document.group g.arn) other)))

  -- of the document's own
  pub own_met : (r : Requirement) → Contains (map root_requirement document.roots) r → IsMet ms set r.name r.range
  own_met r has =
      let root = from_map root_requirement document.roots r has in
      subst (λ (x : Requirement). IsMet ms set x.name x.range) root.2
      (wanted_met (root_need root.0) (Contains-append_right (flat_map (asked_beside document.group) groups) (map root_need document.roots) (root_need root.0)
      (in_map root_need document.roots root.0 root.1)))
