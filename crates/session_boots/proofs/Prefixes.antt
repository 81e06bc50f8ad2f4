-- Runs of records join, and so does what a crash may leave of them.
use Rattle.std.specs.Prelude.{ℕ, Bool, List, [], ◌∷◌, ◌++◌}
use Rattle.std.proofs.Common.{◌∙◌, inl, inr, refl, sym, ap, subst, append_assoc, arith}
use Rattle.disk_model.specs.Disk.{Image, IsAfter, HasLeft, DiskLaws}
use Rattle.disk_model.specs.Moments.{now}
use Rattle.gate_log.specs.Journal.{IsChangeIn}
use Rattle.records.specs.Stored.{Record}
use Rattle.device.specs.Devices.{Device}
use Rattle.device.specs.Lawful.{Run, Allowed, applied}
use Rattle.device.specs.Standing.{StandsFor}
use Rattle.deploy_state.specs.Owned.{StandsForEither}
use Rattle.deploy_state.proofs.Within.{then_within, more_within, start_within}
use Rattle.session_boots.specs.Traces.{StandsForPrefix, StandsForMost, HoldsPrefixes}

pub run_on : (d : Device) (first : List Record) (c : Device) (second : List Record) (e : Device) → Run d first c → Run c second e → Run d (first ++ second) e
run_on d [] c second e h k = subst (λ (x : Device). Run x second e) h k
run_on d (r ∷ first) c second e h k = (h.0, h.1, run_on h.0 first c second e h.2 k)

module _ (entries : Image → List (List ℕ) → Type 0) where
  pub prefix_more : (d : Device) (first second : List Record) (image : Image) → StandsForPrefix entries d first image →
      StandsForPrefix entries d (first ++ second) image
  prefix_more d first second image h = record {
    prefix = h.prefix;
    rest = h.rest ++ second;
    split = ap (λ (l : List Record). l ++ second) h.split ∙ append_assoc h.prefix h.rest second;
    device = h.device;
    run = h.run;
    stands = h.stands;
  }

  pub prefix_after : (d : Device) (first second : List Record) (c : Device) (image : Image) → Run d first c → StandsForPrefix entries c second image →
      StandsForPrefix entries d (first ++ second) image
  prefix_after d first second c image run h = record {
    prefix = first ++ h.prefix;
    rest = h.rest;
    split = ap (λ (l : List Record). first ++ l) h.split ∙ sym (append_assoc first h.prefix h.rest);
    device = h.device;
    run = run_on d first c h.prefix h.device run h.run;
    stands = h.stands;
  }

  pub most_behind : (d : Device) (first second : List Record) (c : Device) (image : Image) → Run d first c → StandsForMost entries c second image →
      StandsForMost entries d (first ++ second) image
  most_behind d first second c image run h = record {
    prefix = first ++ h.prefix;
    rest = h.rest;
    split = ap (λ (l : List Record). first ++ l) h.split ∙ sym (append_assoc first h.prefix h.rest);
    few = h.few;
    device = h.device;
    run = run_on d first c h.prefix h.device run h.run;
    stands = h.stands;
  }

  -- the device before a record, or with it
  either_prefix : (d : Device) (r : Record) (c : Image) → Allowed d r → StandsForEither entries d (applied d r) c → StandsForPrefix entries d (r ∷ []) c
  either_prefix d r c allowed (inl h) = record { prefix = []; rest = r ∷ []; split = refl; device = d; run = refl; stands = h }
  either_prefix d r c allowed (inr h) = record {
    prefix = r ∷ [];
    rest = [];
    split = refl;
    device = applied d r;
    run =
        (applied d r, record { allowed = allowed; leaves = refl }, refl);
    stands = h;
  }

  either_most : (d : Device) (r : Record) (c : Image) → Allowed d r → StandsForEither entries d (applied d r) c → StandsForMost entries d (r ∷ []) c
  either_most d r c allowed (inl h) = record { prefix = []; rest = r ∷ []; split = refl; few = omega arith; device = d; run = refl; stands = h }
  either_most d r c allowed (inr h) = record {
    prefix = r ∷ [];
    rest = [];
    split = refl;
    few = omega arith;
    device = applied d r;
    run =
        (applied d r, record { allowed = allowed; leaves = refl }, refl);
    stands = h;
  }

  -- no record, and the image stands for the device
  pub none_most : (d : Device) (c : Image) → StandsFor entries c d → StandsForMost entries d [] c
  none_most d c h = record { prefix = []; rest = []; split = refl; few = omega arith; device = d; run = refl; stands = h }

  module _ (files : List ℕ → Type 0) {D : Type 0} {may_leave : D → Image → Type 0} {moment : D → ℕ} {left_since : D → ℕ → Image → Type 0} {is_modelled : Bool}
      {seen : D → Image}
      (laws : DiskLaws is_modelled seen may_leave moment left_since) where
    pub no_record : (disk : D) (d : Device) → ((c : Image) → may_leave disk c → StandsFor entries c d) →
        HoldsPrefixes entries files may_leave moment left_since disk disk d []
    no_record disk d stands = start_within laws files disk (StandsForPrefix entries d [])
        (λ c left. record { prefix = []; rest = []; split = refl; device = d; run = refl; stands = stands c left })

    pub one_record : (old new : D) (d : Device) (r : Record) → Allowed d r
        → HasLeft moment left_since old new (IsAfter (may_leave old) (IsChangeIn files (StandsForEither entries d (applied d r)))) →
        HoldsPrefixes entries files may_leave moment left_since old new d (r ∷ [])
    one_record old new d r allowed leaves = more_within laws files old new (StandsForEither entries d (applied d r)) (StandsForPrefix entries d (r ∷ []))
        (λ c h. either_prefix d r c allowed h) leaves

    pub prefixes_join : (old mid new : D) (d : Device) (first : List Record) (c : Device) (second : List Record) →
        HoldsPrefixes entries files may_leave moment left_since old mid d first → Run d first c
        → HoldsPrefixes entries files may_leave moment left_since mid new c second → HoldsPrefixes entries files may_leave moment left_since old new d
        (first ++ second)
    prefixes_join old mid new d first c second one run two =
        then_within laws files old mid new (StandsForPrefix entries d first) (StandsForPrefix entries c second) (StandsForPrefix entries d (first ++ second))
        one two
        (λ i h. prefix_more d first second i h) (λ i h. prefix_after d first second c i run h)

    -- the images of now, after a record that is in doubt
    pub in_doubt : (old new : D) (d : Device) (r : Record) → Allowed d r
        → HasLeft moment left_since old new (IsAfter (may_leave old) (IsChangeIn files (StandsForEither entries d (applied d r)))) → (c : Image) →
        may_leave new c →
        StandsForMost entries d (r ∷ []) c
    in_doubt old new d r allowed leaves c left = either_most d r c allowed
        (now laws old new (IsAfter (may_leave old) (IsChangeIn files (StandsForEither entries d (applied d r)))) leaves c left).2.here
