-- The answers of the two calls put together.
use Rattle.std.proofs.Common.{◌≡◌, ◌⊎◌, ℕ, List, [], ◌∷◌, map, refl, sym, ap, subst}
use Rattle.std.specs.Prelude.{Option, Some, None, IsSome, Result, Ok, Err, IfOk, option_map}
use Rattle.std.specs.Result.{IsErrAnd}
use Rattle.std.specs.List.{AllZip}
use Rattle.std.proofs.lemmas.List.Elements.{All-nil, All-cons, All-head, All-tail}
use Rattle.std.proofs.lemmas.Bool.{false≢true}
use Rattle.nuc_base.specs.Tables.{IsFirst}
use Rattle.tree_core.specs.Regular.{IsRegular}
use Rattle.recipe_reader.specs.Members.{members, IsRising}
use Rattle.recipe_reader.specs.OneRecipe.{IsOneRecipe}
use Rattle.recipe_reader.specs.Sound.{ReadsSound}
use Rattle.recipe_reader.specs.declared.candidate.Candidate.{Candidate}
use Rattle.library_core.specs.Library.{Artifacts, Content}
use Rattle.records.specs.Stored.{Draft, DraftItem, Item, Plan, draft_view, plan_view}
use Rattle.records.specs.declared.record.Draft as code_draft
use Rattle.records.specs.declared.record.Plan as code_plan
use Rattle.records.specs.declared.record.Origin.{Origin}
use Rattle.deployment_doc.specs.Sound.{AreSound}
use Rattle.deployment_doc.specs.declared.document.Document.{Document}
use Rattle.device.specs.Devices.{Device, IsRegularDevice, pending_view}
use Rattle.device.specs.declared.staged.Pending as code_pending
use Rattle.device.specs.Plans.{AreRegularItems}
use Rattle.device.specs.Sound.{IsSound}
use Rattle.plan_core.specs.Checks.{PassesAll, DraftOfDocument, facts, plan_checks}
use Rattle.plan_core.specs.Laws.{FilledIsAllowed}
use Rattle.plan_core.specs.Plans.{IsPlanned}
use Rattle.plan_core.specs.Ready.{GatheredMayPlan, MayPlan}
use Rattle.plan_core.specs.Set.{bare}
use Rattle.plan_core.specs.declared.fault.Refusal.{Refusal}
use Rattle.plan_core.specs.declared.fault.Refusal.TheVariants.{Candidates}
use Rattle.library_core.specs.declared.fault.CandidatesFault.TheVariants as gather
use Rattle.device.specs.Filled.{ItemFilled}
use Rattle.artifact_store.specs.Filled.{Filled}
use Rattle.artifact_store.specs.Staged.{IsOutside, draft_lines}
use Rattle.artifact_store.specs.declared.fault.StageFault.{StageFault}
use Rattle.artifact_store.specs.declared.fault.StageFault.TheVariants as stage
use Rattle.admission.specs.Takes.{HasDiskFailed, HasLibraryFailed, IsFilled, IsRefused, TakesIn}
use Rattle.admission.specs.declared.fault.Declined.{Declined}
use Rattle.admission.specs.declared.fault.Declined.TheVariants.{Refused, Unstaged}
use Rattle.admission.specs.Drafts.{MayStage, MayTakeFilled}
use Rattle.admission.proofs.Drafts.{may_stage}

abbrev pub Answer : Type 0
Answer = Result code_plan.Plan Declined

-- ---- an answer by `?` is a fault

err_of : (r : Answer) (f : Declined) → IsErrAnd r (λ e. e ≡ f) → r ≡ Err f
err_of (Ok plan) f h = absurd h
err_of (Err e) f h = ap Err h

-- ---- the checks look at no count where they pass

passes_any : (d : Device) (o : Origin) (content : Content) (b a c e : ℕ) (document : Document) (cs : List Candidate) (draft : Draft)
    → PassesAll (facts d o content b a document cs draft) plan_checks → PassesAll (facts d o content c e document cs draft) plan_checks
passes_any d o content b a c e document cs draft h =
    (h.0, (h.1.0, (record { gathered = h.1.1.0.gathered; kept = h.1.1.0.kept; told = h.1.1.0.told; tells = h.1.1.0.tells }, (h.1.1.1.0, (h.1.1.1.1.0, tt)))))

module _ (d : Device) (o : Origin) (content : Content) (before mid after : ℕ) (document : Document) where
  -- a check failed
  pub refused : (a : Refusal) (r : Answer) → IsErrAnd r (λ e. e ≡ Refused a) → DraftOfDocument d o content before after document (Err a) →
      TakesIn d o content before after document r
  refused a r h p = subst (TakesIn d o content before after document) (sym (err_of r (Refused a) h)) (p.0, p.1, p.2)

  -- a file was not taken in
  pub unstaged : (draft : code_draft.Draft) (set : List Item) (f : StageFault) (r : Answer) → IsErrAnd r (λ e. e ≡ Unstaged f) → set ≡ d.set
      → DraftOfDocument d o content before mid document (Ok draft)
      → ((l : Artifacts) → content.artifacts ≡ Some l → IsOutside f ⊎ IsFirst (draft_lines l set (draft_view draft)) f)
      → TakesIn d o content before after document r
  unstaged draft set f r h same p said = subst (TakesIn d o content before after document) (sym (err_of r (Unstaged f) h)) (
    p.0,
    p.1,
    (
      passes_any d o content before mid before after document p.0 p.1 p.2.1,
      λ l is. subst (λ (x : Draft). IsOutside f ⊎ IsFirst (draft_lines l d.set x) f) (sym p.2.0)
          (subst (λ (items : List Item). IsOutside f ⊎ IsFirst (draft_lines l items (draft_view draft)) f) same (said l is)),
    ),
  )

  -- all went well
  pub taken : (draft : code_draft.Draft) (set : List Item) (plan : code_plan.Plan) → set ≡ d.set
      → DraftOfDocument d o content before mid document (Ok draft)
      → IsFilled content set (draft_view draft) (plan_view plan)
      → TakesIn d o content before after document (Ok plan)
  taken draft set plan same p filled = (
    p.0,
    p.1,
    (
      passes_any d o content before mid before after document p.0 p.1 p.2.1,
      subst (λ (x : Draft). IsFilled content d.set x (plan_view plan)) (sym p.2.0)
          (subst (λ (items : List Item). IsFilled content items (draft_view draft) (plan_view plan)) same filled),
    ),
  )

-- ---- what may be accepted

regular_items : (is : List DraftItem) (js : List Item) → AllZip ItemFilled is js → AreRegularItems (map bare is) → AreRegularItems js
regular_items [] [] z regular = All-nil (λ (j : Item). IsRegular j.config)
regular_items [] (j ∷ js) z regular = absurd z
regular_items (i ∷ is) [] z regular = absurd z
regular_items (i ∷ is) (j ∷ js) z regular =
    let P = λ (x : Item). IsRegular x.config in
    All-cons P j js (subst IsRegular (sym z.0.config) (All-head P (bare i) (map bare is) regular))
    (regular_items is js z.1 (All-tail P (bare i) (map bare is) regular))

some_origin : (x : Option Origin) → IsSome x → (o : Origin) × (x ≡ Some o)
some_origin None h = absurd (false≢true h)
some_origin (Some o) h = (o, refl)

module _ (one : IsOneRecipe) (reads_sound : ReadsSound) (allowed : FilledIsAllowed) (gathered : GatheredMayPlan) (d : Device) (document : Document)
    (sound : IsSound d) (regular : IsRegularDevice d) (origin : IsSome d.origin) (idle : d.pending ≡ None) (roots : AreSound document.roots)
    (content : Content) (before after : ℕ) (draft : code_draft.Draft)
    (proposed : (o : Origin) → d.origin ≡ Some o → DraftOfDocument d o content before after document (Ok draft)) where
  -- by what the draft was made
  record IsMade : Type 0 where
    of : Origin
    has : d.origin ≡ Some of
    candidates : List Candidate
    rising : IsRising (members candidates)
    may : MayPlan of d candidates document
    planned : IsPlanned of d candidates document (draft_view draft)

  made : IsMade
  made =
      let o = some_origin d.origin origin in
      let p = proposed o.0 o.1 in
      let checks = p.2.1 in
      record {
        of = o.0;
        has = o.1;
        candidates = p.0;
        rising = checks.1.1.0.gathered.1.rising;
        may = gathered o.0 d p.0 document sound regular o.1 idle checks.0 checks.1.0 checks.1.1.0.gathered checks.1.1.0.kept roots;
        planned = subst (IsPlanned o.0 d p.0 document) p.2.0 checks.1.1.1.1.0;
      }

  may_stage_draft : MayStage d.set (draft_view draft).items
  may_stage_draft = may_stage one reads_sound allowed made.of d made.candidates document (draft_view draft) made.has made.rising made.may made.planned

  may_take : MayTakeFilled d (draft_view draft)
  may_take plan fills = record {
    allowed = allowed made.of d made.candidates document (draft_view draft) plan made.has made.rising made.may made.planned
        fills;
    regular = regular_items (draft_view draft).items plan.items fills.items made.planned.regular;
  }

module _ (one : IsOneRecipe) (reads_sound : ReadsSound) (allowed : FilledIsAllowed) (gathered : GatheredMayPlan) (d : Device) (document : Document)
    (sound : IsSound d) (regular : IsRegularDevice d) (origin : IsSome d.origin) (idle : d.pending ≡ None) (roots : AreSound document.roots)
    (content : Content) (before after : ℕ) where
  pub stages_by : (r : Result code_draft.Draft Refusal) → ((o : Origin) → d.origin ≡ Some o → DraftOfDocument d o content before after document r)
      → IfOk r (λ draft. MayStage d.set (draft_view draft).items)
  stages_by (Ok draft) proposed = may_stage_draft one reads_sound allowed gathered d document sound regular origin
      idle roots content before after draft proposed
  stages_by (Err a) proposed = tt

  pub takes_by : (r : Result code_draft.Draft Refusal) → ((o : Origin) → d.origin ≡ Some o → DraftOfDocument d o content before after document r)
      → IfOk r (λ draft. MayTakeFilled d (draft_view draft))
  takes_by (Ok draft) proposed = may_take one reads_sound allowed gathered d document sound regular origin idle roots content before after draft proposed
  takes_by (Err a) proposed = tt

none_of : {A B : Type 0} (f : A → B) (o : Option A) → option_map f o ≡ None → o ≡ None
none_of f None e = refl
none_of f (Some x) e = absurd (cc)

pub pending_none : (o : Option code_pending.Pending) → o ≡ None → option_map pending_view o ≡ None
pending_none o e = ap (option_map pending_view) e

pub none_pending : (o : Option code_pending.Pending) → option_map pending_view o ≡ None → o ≡ None
none_pending o e = none_of pending_view o e

-- no check fails where a file is not taken in
pub unstaged_passes : (r : Answer) (f : StageFault) → IsErrAnd r (λ e. e ≡ Unstaged f) → IsRefused r → ⊥
unstaged_passes r f h is = subst IsRefused (err_of r (Unstaged f) h) is

-- ---- what failed outside

-- a refusal comes of no disk
pub refused_disk : (r : Answer) (a : Refusal) → IsErrAnd r (λ e. e ≡ Refused a) → HasDiskFailed r → ⊥
refused_disk r a h failed = subst HasDiskFailed (err_of r (Refused a) h) failed

pub refused_library : (r : Answer) (a : Refusal) → IsErrAnd r (λ e. e ≡ Refused a) → HasLibraryFailed r → a ≡ Candidates gather.Library
refused_library r a h failed = subst HasLibraryFailed (err_of r (Refused a) h) failed

pub library_refused : (r : Answer) (a : Refusal) → IsErrAnd r (λ e. e ≡ Refused a) → a ≡ Candidates gather.Library → HasLibraryFailed r
library_refused r a h is = subst HasLibraryFailed (sym (err_of r (Refused a) h)) is

pub unstaged_disk : (r : Answer) (f : StageFault) → IsErrAnd r (λ e. e ≡ Unstaged f) → HasDiskFailed r → f ≡ stage.Disk
unstaged_disk r f h failed = subst HasDiskFailed (err_of r (Unstaged f) h) failed

pub disk_unstaged : (r : Answer) (f : StageFault) → IsErrAnd r (λ e. e ≡ Unstaged f) → f ≡ stage.Disk → HasDiskFailed r
disk_unstaged r f h is = subst HasDiskFailed (sym (err_of r (Unstaged f) h)) is

pub unstaged_library : (r : Answer) (f : StageFault) → IsErrAnd r (λ e. e ≡ Unstaged f) → HasLibraryFailed r → f ≡ stage.Library
unstaged_library r f h failed = subst HasLibraryFailed (err_of r (Unstaged f) h) failed

pub library_unstaged : (r : Answer) (f : StageFault) → IsErrAnd r (λ e. e ≡ Unstaged f) → f ≡ stage.Library → HasLibraryFailed r
library_unstaged r f h is = subst HasLibraryFailed (sym (err_of r (Unstaged f) h)) is
