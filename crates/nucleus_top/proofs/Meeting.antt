-- Devices stay met, and whole, along the records of a call.
use Rattle.std.specs.Prelude.{true, false, ℕ, Option, Some, None, is_some, Result, Ok, Err}
use Rattle.std.proofs.Common.{◌≡◌, List, [], ◌∷◌, ◌++◌, inl, inr, refl, subst, sym}
use Rattle.records.specs.Stored.{Plan, Record, Accepted, plan_view}
use Rattle.records.specs.declared.record.Plan as code
use Rattle.records.specs.declared.record.Origin.{Origin}
use Rattle.library_core.specs.Library.{Content}
use Rattle.device.specs.Devices.{Device, IsRegularDevice, Pending}
use Rattle.device.specs.Lawful.{applied}
use Rattle.device.specs.Met.{BringMet, BringsMet}
use Rattle.device.specs.Sound.{IsSound}
use Rattle.device.proofs.Meeting.{after_run}
use Rattle.histories.specs.TraceEvents.{TraceEvent, records_of}
use Rattle.histories.specs.Once.{TakesOnce}
use Rattle.histories.specs.States.{SessionState}
use Rattle.admission.specs.Requests.{TakesBy}
use Rattle.admission.specs.declared.fault.Declined.{Declined}
use Rattle.admission.specs.Taken.{TakenAreMet}
use Rattle.deployment_doc.specs.Reads.{ReadsDocument}
use Rattle.deployment_doc.specs.Sound.{AreSound}
use Rattle.deployment_doc.specs.declared.document.Document.{Document}
use Rattle.law_whole.specs.Taking.{StayWhole, TakenAreWhole}
use Rattle.law_whole.specs.Whole.{BringWhole, BringsWhole, Whole}
use Rattle.law_whole.proofs.Taken.{brought_stay_whole}
use Rattle.session.specs.Calls.{IsEndingOf}
use Rattle.session.specs.Documents.{PlanEnding, TakenEnding, TakesRead}
use Rattle.session.specs.Endings.{Ending, PendingEnding}
use Rattle.nucleus_top.specs.Meeting.{BroughtStayMet}

-- what records bring, a prefix of them brings
prefix_brings : (d : Device) (prefix rest : List Record) → BringMet d (prefix ++ rest) → BringMet d prefix
prefix_brings d [] rest brings = tt
prefix_brings d (r ∷ prefix) rest brings = (brings.0, prefix_brings (applied d r) prefix rest brings.1)

pub brought_stay_met : BroughtStayMet
brought_stay_met d records brings met prefix rest e split run = after_run prefix d e met run (prefix_brings d prefix rest (subst (BringMet d) split brings))

-- ---- what a call brings

-- no plan, where one was taken before
pub once_brings : (d : Device) (records : List Record) → TakesOnce true records → BringMet d records
once_brings d [] once = tt
once_brings d (Accepted p ∷ records) once = let never : true ≡ false = once.0 refl in cc
once_brings d (r ∷ records) once = (tt, once_brings (applied d r) records once.1)

-- a call that resumes: there is nothing to resume, or one was taken before
pub resumed_brings : (d : Device) (o : Option Pending) (ending : Ending) (h : List TraceEvent) (q : SessionState) → PendingEnding o ending →
    IsEndingOf ending h q →
    TakesOnce (is_some o) (records_of h) → BringMet d (records_of h)
resumed_brings d None ending h q resumes ends once =
    let none : h ≡ [] = (subst (λ (e : Ending). IsEndingOf e h q) resumes ends).0 in
    subst (λ (l : List TraceEvent). BringMet d (records_of l)) (sym none) tt
resumed_brings d (Some p) ending h q resumes ends once = once_brings d (records_of h) once

-- the same of what is whole
pub once_wholes : (d : Device) (records : List Record) → TakesOnce true records → BringWhole d records
once_wholes d [] once = tt
once_wholes d (Accepted p ∷ records) once = let never : true ≡ false = once.0 refl in cc
once_wholes d (r ∷ records) once = (λ whole. tt, once_wholes (applied d r) records once.1)

resumed_wholes : (d : Device) (o : Option Pending) (ending : Ending) (h : List TraceEvent) (q : SessionState) → PendingEnding o ending → IsEndingOf ending h q →
    TakesOnce (is_some o) (records_of h) → BringWhole d (records_of h)
resumed_wholes d None ending h q resumes ends once =
    let none : h ≡ [] = (subst (λ (e : Ending). IsEndingOf e h q) resumes ends).0 in
    subst (λ (l : List TraceEvent). BringWhole d (records_of l)) (sym none) tt
resumed_wholes d (Some p) ending h q resumes ends once = once_wholes d (records_of h) once

pub resumed_stay : (d : Device) (o : Option Pending) (ending : Ending) (h : List TraceEvent) (q : SessionState) → PendingEnding o ending →
    IsEndingOf ending h q →
    TakesOnce (is_some o) (records_of h) → StayWhole d (records_of h)
resumed_stay d o ending h q resumes ends once = brought_stay_whole d (records_of h) (resumed_wholes d o ending h q resumes ends once)

module _ (request : Device → Result Document Declined → Type 0) (d : Device) (o : Origin) (content : Content) (before after : ℕ) (sound : IsSound d)
    (start : ℕ → ℕ) (ending : Ending) (records : List Record) where
  begun_brings : (plan : Plan) → BringsMet d (Accepted plan) → PlanEnding start plan ending records → BringMet d records
  begun_brings plan met (inl off) = subst (BringMet d) (sym off.1) tt
  begun_brings plan met (inr on) = subst (BringMet d) (sym on.2.1) (met, once_brings (applied d (Accepted plan)) on.2.0 on.2.2)

  -- one that deploys: the plan of its document, and no other
  pub deployed_brings : TakenAreMet → (taken : Result code.Plan Declined) → TakesBy request d o content before after taken → TakenEnding start taken ending
      records → BringMet d records
  deployed_brings law (Err a) takes follows = subst (BringMet d) (sym follows.1) tt
  deployed_brings law (Ok plan) (inl memory) follows = cc
  deployed_brings law (Ok plan) (inr (inl fault)) follows = let wrong = fault.2 in cc
  deployed_brings law (Ok plan) (inr (inr made)) follows =
      begun_brings (plan_view plan) (law d o content before after made.0 plan sound made.3) follows

  -- and one that deploys what an inbox gave
  pub read_brings : TakenAreMet → (bytes : List ℕ) (taken : Result code.Plan Declined) → TakesRead d o content before after bytes taken →
      TakenEnding start taken ending records → BringMet d records
  read_brings law bytes (Err a) takes follows = subst (BringMet d) (sym follows.1) tt
  read_brings law bytes (Ok plan) (inl memory) follows = cc
  read_brings law bytes (Ok plan) (inr (inl fault)) follows = let wrong = fault.2 in cc
  read_brings law bytes (Ok plan) (inr (inr made)) follows =
      begun_brings (plan_view plan) (law d o content before after made.0 plan sound made.2) follows

  begun_wholes : (plan : Plan) → (Whole d → BringsWhole d (Accepted plan)) → PlanEnding start plan ending records → BringWhole d records
  begun_wholes plan whole (inl off) = subst (BringWhole d) (sym off.1) tt
  begun_wholes plan whole (inr on) = subst (BringWhole d) (sym on.2.1) (whole, once_wholes (applied d (Accepted plan)) on.2.0 on.2.2)

  -- and where the device is whole
  deployed_wholes : TakenAreWhole → IsRegularDevice d → d.origin ≡ Some o → (taken : Result code.Plan Declined)
      → TakesBy request d o content before after taken → TakenEnding start taken ending records → BringWhole d records
  deployed_wholes law regular is (Err a) takes follows = subst (BringWhole d) (sym follows.1) tt
  deployed_wholes law regular is (Ok plan) (inl memory) follows = cc
  deployed_wholes law regular is (Ok plan) (inr (inl fault)) follows = let wrong = fault.2 in cc
  deployed_wholes law regular is (Ok plan) (inr (inr made)) follows =
      begun_wholes (plan_view plan) (λ whole. law d o content before after made.0 plan sound regular whole is made.2 made.3) follows

  -- of what an inbox gave
  pub read_wholes : TakenAreWhole → IsRegularDevice d → d.origin ≡ Some o → (bytes : List ℕ) (taken : Result code.Plan Declined)
      → ((document : Document) → ReadsDocument bytes (Ok document) → AreSound document.roots)
      → TakesRead d o content before after bytes taken → TakenEnding start taken ending records → BringWhole d records
  read_wholes law regular is bytes (Err a) roots takes follows = subst (BringWhole d) (sym follows.1) tt
  read_wholes law regular is bytes (Ok plan) roots (inl memory) follows = cc
  read_wholes law regular is bytes (Ok plan) roots (inr (inl fault)) follows = let wrong = fault.2 in cc
  read_wholes law regular is bytes (Ok plan) roots (inr (inr made)) follows =
      begun_wholes (plan_view plan) (λ whole. law d o content before after made.0 plan sound regular whole is (roots made.0 made.1) made.2) follows

  pub deployed_stay : TakenAreWhole → IsRegularDevice d → d.origin ≡ Some o → (taken : Result code.Plan Declined)
      → TakesBy request d o content before after taken → TakenEnding start taken ending records → StayWhole d records
  deployed_stay law regular is taken takes follows = brought_stay_whole d records (deployed_wholes law regular is taken takes follows)
