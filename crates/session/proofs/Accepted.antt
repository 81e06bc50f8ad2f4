-- Where the entry of an accepted plan stands, said of a whole and of its parts.
use Rattle.std.specs.Prelude.{ℕ, ◌+◌, Bool, List, [], ◌∷◌, Result, Ok, Err, ⊤}
use Rattle.std.proofs.Common.{◌≡◌, ◌⊎◌, ◌∙◌, inl, inr, refl, sym, subst}
use Rattle.disk_model.specs.Disk.{Image, DiskLaws, HasLeft}
use Rattle.disk_model.specs.Moments.{joined, weaker}
use Rattle.records.specs.Stored.{Accepted, Plan, Record, plan_view}
use Rattle.records.specs.declared.record.Plan as code
use Rattle.device.specs.Devices.{Device}
use Rattle.deploy_state.specs.Turning.{plan_bytes}
use Rattle.admission.specs.declared.fault.Declined.{Declined}
use Rattle.law_histories.proofs.Growing.{tail_same}
use Rattle.session.specs.Documents.{AcceptsFrom, AcceptsTaken, PlanEnding, TakenEnding, HasAcceptedTo}
use Rattle.session.specs.Endings.{Ending, ByDiskFault}

-- ---- the plan that was accepted is the one that was taken in

pub record IsTakenAs (taken : Result code.Plan Declined) (p : Plan) : Type 0 where
  pub plan : code.Plan
  pub taken_is : taken ≡ Ok plan
  pub plan_is : p ≡ plan_view plan

first_same : (p q : Plan) (rest more : List Record) → ◌≡◌ {A = List Record} (Accepted p ∷ rest) (Accepted q ∷ more) → p ≡ q
first_same p q rest more same = cc

module _ (start : ℕ → ℕ) (ending : Ending) (records rest : List Record) (p : Plan) (is : records ≡ Accepted p ∷ rest) where
  begun_as : (plan : code.Plan) → PlanEnding start (plan_view plan) ending records → p ≡ plan_view plan
  begun_as plan (inl off) = let wrong : [] ≡ Accepted p ∷ rest = sym off.1 ∙ is in cc
  begun_as plan (inr on) = first_same p (plan_view plan) rest on.2.0 (sym is ∙ on.2.1)

  pub taken_as : (taken : Result code.Plan Declined) → TakenEnding start taken ending records → IsTakenAs taken p
  taken_as (Ok plan) follows = record { plan = plan; taken_is = refl; plan_is = begun_as plan follows }
  taken_as (Err x) follows = let wrong : [] ≡ Accepted p ∷ rest = sym follows.1 ∙ is in absurd cc

-- ---- where its entry stands

module _ (entries : Image → List (List ℕ) → Type 0) {D : Type 0} (may_leave : D → Image → Type 0) (moment : D → ℕ) (left_since : D → ℕ → Image → Type 0)
    (old new : D) (d : Device) (start : ℕ → ℕ) (ending : Ending) (records rest : List Record) (p : Plan) (is : records ≡ Accepted p ∷ rest) where
  accepts_at : AcceptsFrom entries may_leave moment left_since old new d start p ending records →
      ((ending ≡ ByDiskFault) × (rest ≡ [])) ⊎ HasAcceptedTo entries may_leave moment left_since old new d p (start (plan_bytes p) + 5 + plan_bytes p)
  accepts_at (inl none) = let no : [] ≡ Accepted p ∷ rest = sym none ∙ is in absurd cc
  accepts_at (inr (inl failed)) = inl (failed.0, tail_same (Accepted p) (Accepted p) rest [] (sym is ∙ failed.1))
  accepts_at (inr (inr h)) = inr h

  -- behind its first record is its entry, unless the disk failed
  pub accepted_at : (taken : Result code.Plan Declined) → TakenEnding start taken ending records →
      AcceptsTaken entries may_leave moment left_since old new d start taken ending records →
      ((ending ≡ ByDiskFault) × (rest ≡ [])) ⊎ HasAcceptedTo entries may_leave moment left_since old new d p (start (plan_bytes p) + 5 + plan_bytes p)
  accepted_at taken follows accepts =
      let t = taken_as start ending records rest p is taken follows in
      accepts_at (subst (λ (q : Plan). AcceptsFrom entries may_leave moment left_since old new d start q ending records) (sym t.plan_is)
      (subst (λ (r : Result code.Plan Declined). AcceptsTaken entries may_leave moment left_since old new d start r ending records) t.taken_is accepts))

module _ (entries : Image → List (List ℕ) → Type 0) {D : Type 0} {is_modelled : Bool} {seen : D → Image} {may_leave : D → Image → Type 0} {moment : D → ℕ}
    {left_since : D → ℕ → Image → Type 0} (laws : DiskLaws is_modelled seen may_leave moment left_since) where
  -- one disk goes on from another, in one part or in two
  pub any_moment : (old new : D) (P : Image → Type 0) → HasLeft moment left_since old new P → HasLeft moment left_since old new (λ c. ⊤)
  any_moment old new P leaves = weaker laws old new P (λ c. ⊤) (λ c p. tt) leaves

  pub any_on : (old mid new : D) (P Q : Image → Type 0) → HasLeft moment left_since old mid P → HasLeft moment left_since mid new Q →
      HasLeft moment left_since old new (λ c. ⊤)
  any_on old mid new P Q first second = joined laws old mid new P Q (λ c. ⊤) first second (λ c p. tt) (λ c p. tt)

  -- what a later part accepted the whole did
  module _ (old mid new : D) (P : Image → Type 0) (first : HasLeft moment left_since old mid P) (d : Device) where
    pub has_behind : (plan : Plan) (place : ℕ) → HasAcceptedTo entries may_leave moment left_since mid new d plan place →
        HasAcceptedTo entries may_leave moment left_since old new d plan place
    has_behind plan place h = record { at = h.at; from = any_on old mid h.at P (λ c. ⊤) first h.from; on = h.on; each = h.each }

    pub accepts_behind : (start : ℕ → ℕ) (plan : Plan) (ending : Ending) (records : List Record)
        → AcceptsFrom entries may_leave moment left_since mid new d start plan ending records
        → AcceptsFrom entries may_leave moment left_since old new d start plan ending records
    accepts_behind start plan ending records (inl none) = inl none
    accepts_behind start plan ending records (inr (inl failed)) = inr (inl failed)
    accepts_behind start plan ending records (inr (inr h)) = inr (inr (has_behind plan (start (plan_bytes plan) + 5 + plan_bytes plan) h))

    pub takes_behind : (start : ℕ → ℕ) (taken : Result code.Plan Declined) (ending : Ending) (records : List Record)
        → AcceptsTaken entries may_leave moment left_since mid new d start taken ending records
        → AcceptsTaken entries may_leave moment left_since old new d start taken ending records
    takes_behind start (Err x) ending records accepts = tt
    takes_behind start (Ok plan) ending records accepts = accepts_behind start (plan_view plan) ending records accepts
