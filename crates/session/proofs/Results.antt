-- What is said of a result, at the value that it has.
use Rattle.std.specs.Prelude.{ℕ, List, Option, Result, Ok, Err, IfOk, OnErr, IsErrOf}
use Rattle.std.proofs.Common.{◌≡◌, ◌≢◌, ◌⊎◌, ◌∙◌, inl, inr, refl, sym, subst}
use Rattle.nuc_base.specs.declared.status.Status.{Status}
use Rattle.nuc_base.specs.declared.status.Status.TheVariants as statuses
use Rattle.session_boots.specs.declared.ends.SessionFault.{SessionFault}
use Rattle.session_boots.specs.declared.ends.SessionFault.TheVariants as over
use Rattle.session_rollout.specs.declared.driven.Driven.{Driven}
use Rattle.session_rollout.specs.declared.driven.Driven.TheVariants as driven
use Rattle.session.specs.Calls.{DrivenStatus, DrivenEnding, SaysEnding}
use Rattle.session.specs.Endings.{Ending, ByDiskFault}
use Rattle.session.proofs.Statuses.{no_outcome}

module _ {A E : Type 0} where
  pub if_ok : (P : A → Type 0) (r : Result A E) (x y : A) → r ≡ Ok x → x ≡ y → IfOk r P → P y
  if_ok P r x y is same h = subst P same (subst (λ (z : Result A E). IfOk z P) is h)

  pub ok_if : (P : A → Type 0) (r : Result A E) (x y : A) → r ≡ Ok x → x ≡ y → P y → IfOk r P
  ok_if P r x y is same h = subst (λ (z : Result A E). IfOk z P) (sym is) (subst P (sym same) h)

  pub err_if : (P : A → Type 0) (r : Result A E) (e : E) → r ≡ Err e → IfOk r P
  err_if P r e is = subst (λ (z : Result A E). IfOk z P) (sym is) tt

  pub on_err : (X : Type 0) (r : Result A E) (e : E) → r ≡ Err e → OnErr r X → X
  on_err X r e is h = subst (λ (z : Result A E). OnErr z X) is h

  pub err_on : (X : Type 0) (r : Result A E) (e : E) → r ≡ Err e → X → OnErr r X
  err_on X r e is h = subst (λ (z : Result A E). OnErr z X) (sym is) h

  pub ok_on : (X : Type 0) (r : Result A E) (x : A) → r ≡ Ok x → OnErr r X
  ok_on X r x is = subst (λ (z : Result A E). OnErr z X) (sym is) tt

module _ {J : Type 0} (status : Status) where
  pub answers_ok : (r : Result (Driven J) SessionFault) (x y : Driven J) → r ≡ Ok x → x ≡ y → DrivenStatus (Ok y) status → DrivenStatus r status
  answers_ok r x y is same answers =
      subst (λ (z : Result (Driven J) SessionFault). DrivenStatus z status) (sym is) (subst (λ (z : Driven J). DrivenStatus (Ok z) status) (sym same) answers)

  pub answers_err : (r : Result (Driven J) SessionFault) (e f : SessionFault) → r ≡ Err e → e ≡ f → DrivenStatus {J = J} (Err f) status → DrivenStatus r status
  answers_err r e f is same answers =
      subst (λ (z : Result (Driven J) SessionFault). DrivenStatus z status) (sym is)
      (subst (λ (z : SessionFault). DrivenStatus {J = J} (Err z) status) (sym same) answers)

  -- with the cause of a disk that failed
  abbrev EndsCaused : Type 0 → Result (Driven J) SessionFault → Ending → Type 0
  EndsCaused R r e = DrivenEnding r e × (e ≡ ByDiskFault → (IsErrOf r over.Disk) ⊎ R)

  module _ (old new : Option (List ℕ)) where
    pub ends_ok : {R : Type 0} (r : Result (Driven J) SessionFault) (x y : Driven J) → r ≡ Ok x → x ≡ y → SaysEnding old new status (EndsCaused R (Ok y)) →
        SaysEnding old new status (EndsCaused R r)
    ends_ok {R = R} r x y is same says =
        subst (λ (z : Result (Driven J) SessionFault). SaysEnding old new status (EndsCaused R z)) (sym is)
        (subst (λ (z : Driven J). SaysEnding old new status (EndsCaused R (Ok z))) (sym same) says)

    pub ends_err : {R : Type 0} (r : Result (Driven J) SessionFault) (e f : SessionFault) → r ≡ Err e → e ≡ f →
        SaysEnding old new status (EndsCaused R (Err f)) → SaysEnding old new status (EndsCaused R r)
    ends_err {R = R} r e f is same says =
        subst (λ (z : Result (Driven J) SessionFault). SaysEnding old new status (EndsCaused R z)) (sym is)
        (subst (λ (z : SessionFault). SaysEnding old new status (EndsCaused R (Err z))) (sym same) says)

-- it failed, and not at the sink
pub not_edge : {A : Type 0} (r : Result A SessionFault) (e : SessionFault) → r ≡ Err e → e ≡ over.Disk → IsErrOf r over.Output → ⊥
not_edge {A} r e is disk edge = by e disk (subst (λ (z : Result A SessionFault). z ≡ Err over.Output) is edge)
  where
    by : (e : SessionFault) → e ≡ over.Disk → ◌≡◌ {A = Result A SessionFault} (Err e) (Err over.Output) → ⊥
    by over.Disk same both = cc
    by over.Output same both = cc

-- ---- which statuses it has not

module _ {J : Type 0} (status : Status) where
  pub answers_own : (r : Result (Driven J) SessionFault) → DrivenStatus r status → status ≡ statuses.Library → ⊥
  answers_own (Ok (driven.Closed s o w)) (inl is) lib = no_outcome o statuses.Library refl (sym is ∙ lib)
  answers_own (Ok (driven.Closed s o w)) (inr (inl is)) lib = cc
  answers_own (Ok (driven.Closed s o w)) (inr (inr (inl is))) lib = cc
  answers_own (Ok (driven.Closed s o w)) (inr (inr (inr is))) lib = cc
  answers_own (Ok (driven.Restart s)) (inl is) lib = cc
  answers_own (Ok (driven.Restart s)) (inr is) lib = cc
  answers_own (Ok (driven.Reboot s)) (inl is) lib = cc
  answers_own (Ok (driven.Reboot s)) (inr is) lib = cc
  answers_own (Err over.Disk) (inl is) lib = cc
  answers_own (Err over.Disk) (inr is) lib = cc
  answers_own (Err over.Output) is lib = cc

  -- a failure of the disk is answered as one, unless the sink fails then
  pub answers_disk : (r : Result (Driven J) SessionFault) → DrivenStatus r status → status ≢ statuses.Disk → status ≢ statuses.Edge → IsErrOf r over.Disk → ⊥
  answers_disk r answers disk edge is = by (subst (λ (z : Result (Driven J) SessionFault). DrivenStatus z status) is answers)
    where
      by : (status ≡ statuses.Disk) ⊎ (status ≡ statuses.Edge) → ⊥
      by (inl e) = disk e
      by (inr e) = edge e

  pub answers_edge : (r : Result (Driven J) SessionFault) → DrivenStatus r status → status ≢ statuses.Edge → IsErrOf r over.Output → ⊥
  answers_edge r answers edge is = edge (subst (λ (z : Result (Driven J) SessionFault). DrivenStatus z status) is answers)
