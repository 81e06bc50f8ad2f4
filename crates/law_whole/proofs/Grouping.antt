-- The groups behind a plan.
use Rattle.std.proofs.Common.{◌≡◌, ℕ, Bool, true, false, List, [], ◌∷◌, map, refl, sym, ap, subst, ◌∙◌, inl, inr}
use Rattle.std.specs.Prelude.{Option, Some, None, if◌then◌else◌, nat_eq}
use Rattle.std.specs.Option.{option_map_or}
use Rattle.std.specs.List.{Contains, IsDistinct}
use Rattle.std.specs.Str.{bytes_eq}
use Rattle.std.proofs.lemmas.Map.Keys.{IsDistinct-tail}
use Rattle.std.proofs.lemmas.Slice.Eq.{bytes_eq-Decides}
use Rattle.nuc_base.proofs.Lists.{in_cons, in_here, in_nil, in_there}
use Rattle.records.specs.Stored.{Plan}
use Rattle.records.specs.declared.record.Requirement.{Requirement}
use Rattle.device.specs.Devices.{Group}
use Rattle.device.specs.Grouped.{find_group, group_after, put_group, revision_after, revision_of, with_group}
use Rattle.device.specs.Sound.{arns}
use Rattle.law_whole.specs.Taking.{KeptGroupStays, OtherGroupsStay}
use Rattle.law_whole.proofs.Asking.{one_arn}

-- ---- the same group put again

put_here : (x : Group) (gs : List Group) (g : Group) → (bytes_eq g.arn x.arn ≡ true → x ≡ g) → (bytes_eq g.arn x.arn ≡ false → put_group gs g ≡ gs)
    → (b : Bool) → bytes_eq g.arn x.arn ≡ b → (if b then g ∷ gs else x ∷ put_group gs g) ≡ x ∷ gs
put_here x gs g same more true is = ap (λ (y : Group). y ∷ gs) (sym (same is))
put_here x gs g same more false is = ap (λ (l : List Group). x ∷ l) (more is)

put_again : (gs : List Group) → IsDistinct bytes_eq (arns gs) → (g : Group) → Contains gs g → put_group gs g ≡ gs
put_again [] differ g among = absurd (in_nil g among)
put_again (x ∷ gs) differ g among = put_here x gs g
    (λ is. one_arn (x ∷ gs) differ x g (in_here x gs) among (sym ((bytes_eq-Decides g.arn x.arn).0 is)))
    (λ other. elim (in_cons x gs g among) [
      | inl e ↦ (let both : true ≡ false = sym ((bytes_eq-Decides g.arn x.arn).1 (ap (λ (y : Group). y.arn) (sym e))) ∙ other in absurd cc)
      | inr j ↦ put_again gs (IsDistinct-tail bytes_eq x.arn (arns gs) differ) g j
    ])
    (bytes_eq g.arn x.arn) refl

find_here : (arn : List ℕ) (x : Group) (gs : List Group) (g : Group) → (bytes_eq arn x.arn ≡ true → x ≡ g) →
    (bytes_eq arn x.arn ≡ false → find_group arn gs ≡ Some g)
    → (b : Bool) → bytes_eq arn x.arn ≡ b → (if b then Some x else find_group arn gs) ≡ Some g
find_here arn x gs g same more true is = ap Some (same is)
find_here arn x gs g same more false is = more is

find_one : (gs : List Group) → IsDistinct bytes_eq (arns gs) → (arn : List ℕ) (g : Group) → Contains gs g → arn ≡ g.arn → find_group arn gs ≡ Some g
find_one [] differ arn g among named = absurd (in_nil g among)
find_one (x ∷ gs) differ arn g among named = find_here arn x gs g
    (λ is. one_arn (x ∷ gs) differ x g (in_here x gs) among (sym ((bytes_eq-Decides arn x.arn).0 is) ∙ named))
    (λ other. elim (in_cons x gs g among) [
      | inl e ↦ (let both : true ≡ false = sym ((bytes_eq-Decides arn x.arn).1 (named ∙ ap (λ (y : Group). y.arn) (sym e))) ∙ other in absurd cc)
      | inr j ↦ find_one gs (IsDistinct-tail bytes_eq x.arn (arns gs) differ) arn g j named
    ])
    (bytes_eq arn x.arn) refl

group_same : (g h : Group) → h.arn ≡ g.arn → h.revision ≡ g.revision → h.requirements ≡ g.requirements → h ≡ g
group_same g h arn revision requirements = λ k. record { arn = arn k; revision = revision k; requirements = requirements k }

pub kept_group_stays : KeptGroupStays
kept_group_stays d document plan sound keeps group revision own =
    let g = keeps.0 in
    let found = find_one d.groups sound.groups.differ plan.group g keeps.1 (group ∙ keeps.2) in
    let same_revision : revision_after d.groups plan ≡ g.revision =
    ap (λ (n : ℕ). if nat_eq n 0 then revision_of plan.group d.groups else n) revision ∙ ap (λ (o : Option Group). option_map_or (λ (x : Group). x.revision)
    o 0) found in
    let same : group_after d.groups plan ≡ g = group_same g (group_after d.groups plan) (group ∙ keeps.2) same_revision (own ∙ keeps.3) in
    ap (put_group d.groups) same ∙ put_again d.groups sound.groups.differ g keeps.1

-- ---- the others

other_step : (arn : List ℕ) (x : Group) (gs : List Group) (new : Group) → bytes_eq arn new.arn ≡ false → find_group arn (put_group gs new) ≡ find_group arn gs
    → (b : Bool) → bytes_eq new.arn x.arn ≡ b → find_group arn (if b then new ∷ gs else x ∷ put_group gs new) ≡ find_group arn (x ∷ gs)
other_step arn x gs new other more true is =
    let e : bytes_eq arn x.arn ≡ false = ap (bytes_eq arn) (sym ((bytes_eq-Decides new.arn x.arn).0 is)) ∙ other in
    ap (λ (b : Bool). if b then Some new else find_group arn gs) other ∙ ap (λ (b : Bool). if b then Some x else find_group arn gs) (sym e)
other_step arn x gs new other more false is = ap (λ (o : Option Group). if bytes_eq arn x.arn then Some x else o) more

others_found : (arn : List ℕ) (gs : List Group) (new : Group) → bytes_eq arn new.arn ≡ false → find_group arn (put_group gs new) ≡ find_group arn gs
others_found arn [] new other = ap (λ (b : Bool). if b then Some new else None) other
others_found arn (x ∷ gs) new other = other_step arn x gs new other (others_found arn gs new other) (bytes_eq new.arn x.arn) refl

own_step : (x : Group) (gs : List Group) (new : Group) → find_group new.arn (put_group gs new) ≡ Some new
    → (b : Bool) → bytes_eq new.arn x.arn ≡ b → find_group new.arn (if b then new ∷ gs else x ∷ put_group gs new) ≡ Some new
own_step x gs new more true is = ap (λ (b : Bool). if b then Some new else find_group new.arn gs) ((bytes_eq-Decides new.arn new.arn).1 refl)
own_step x gs new more false is = ap (λ (b : Bool). if b then Some x else find_group new.arn (put_group gs new)) is ∙ more

own_found : (gs : List Group) (new : Group) → find_group new.arn (put_group gs new) ≡ Some new
own_found [] new = ap (λ (b : Bool). if b then Some new else None) ((bytes_eq-Decides new.arn new.arn).1 refl)
own_found (x ∷ gs) new = own_step x gs new (own_found gs new) (bytes_eq new.arn x.arn) refl

pub other_groups_stay : OtherGroupsStay
other_groups_stay groups plan = (λ arn other. others_found arn groups (group_after groups plan) other, own_found groups (group_after groups plan))
