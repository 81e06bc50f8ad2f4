-- What a request comes to, by its first 524,289 bytes: the rest is never looked at.
use Rattle.std.proofs.Common.{◌≡◌, ◌⊎◌, ◌<◌, inl, inr, ℕ, List, length, take, ◌∙◌, refl, ap, subst, arith}
use Rattle.std.specs.Prelude.{Result, Ok, Err}
use Rattle.std.proofs.lemmas.Bool.{cases_lt}
use Rattle.std.proofs.lemmas.List.{take_all}
use Rattle.device.specs.Devices.{Device}
use Rattle.deployment_doc.specs.declared.document.Document.{Document}
use Rattle.deployment_doc.specs.declared.fault.DocFault.{DocFault}
use Rattle.local_deploy.specs.Reads.{IsFault as IsLocalFault}
use Rattle.local_deploy.specs.declared.fault.LocalFault.{LocalFault}
use Rattle.config_cmd.specs.Changes.{IsChangeFault}
use Rattle.admission.specs.Requests.{AsksChange, AsksLocal, ReadsAs, AskOutcome}
use Rattle.admission.specs.declared.ask.Ask.{Ask}
use Rattle.admission.specs.declared.ask.Ask.TheVariants as ask
use Rattle.admission.specs.declared.fault.Declined.{Declined}
use Rattle.nucleus_top.proofs.Proposals.{prefix_is_long, too_long, tree_too_long}

module _ (whole prefix : List ℕ) (is : prefix ≡ take 524289 whole) (long : 524288 < length whole) where
  local_too_long : (f : LocalFault) → IsLocalFault prefix f → IsLocalFault whole f
  local_too_long f (inl fault) = inl (fault.0, fault.1, tree_too_long whole prefix is long fault.0 fault.3 fault.2, fault.3)
  local_too_long f (inr fault) = absurd (omega (arith, prefix_is_long whole prefix is long, fault.1.within))

  change_too_long : (name : List ℕ) (f : DocFault) → IsChangeFault name prefix f → IsChangeFault name whole f
  change_too_long name f (inl fault) = inl (fault.0, fault.1, tree_too_long whole prefix is long fault.0 fault.3 fault.2, fault.3)
  change_too_long name f (inr fault) = absurd (omega (arith, prefix_is_long whole prefix is long, fault.1.within))

  reads_long : (d : Device) (r : Result Document Declined) → ReadsAs prefix d r → ReadsAs whole d r
  reads_long d (Ok document) reads = absurd (omega (arith, prefix_is_long whole prefix is long, reads.1.within))
  reads_long d (Err x) fails = (fails.0, too_long whole prefix is long fails.0 fails.1, fails.2)

  local_long : (d : Device) (r : Result Document Declined) → AsksLocal prefix d r → AsksLocal whole d r
  local_long d (Ok document) asks = absurd (omega (arith, prefix_is_long whole prefix is long, asks.1.read.1.within))
  local_long d (Err x) (inl fails) = inl (fails.0, local_too_long fails.0 fails.1, fails.2)
  local_long d (Err x) (inr (inl closed)) = absurd (omega (arith, prefix_is_long whole prefix is long, closed.1.1.within))
  local_long d (Err x) (inr (inr refuses)) = absurd (omega (arith, prefix_is_long whole prefix is long, refuses.1.read.1.within))

  change_long : (name : List ℕ) (d : Device) (r : Result Document Declined) → AsksChange name prefix d r → AsksChange name whole d r
  change_long name d (Ok document) asks = absurd (omega (arith, prefix_is_long whole prefix is long, asks.1.read.1.within))
  change_long name d (Err x) (inl fails) = inl (fails.0, change_too_long name fails.0 fails.1, fails.2)
  change_long name d (Err x) (inr (inl closed)) = absurd (omega (arith, prefix_is_long whole prefix is long, closed.1.1.within))
  change_long name d (Err x) (inr (inr refuses)) = absurd (omega (arith, prefix_is_long whole prefix is long, refuses.1.read.1.within))

  asks_long : (what : Ask) (d : Device) (r : Result Document Declined) → AskOutcome what prefix d r → AskOutcome what whole d r
  asks_long ask.Document d r asks = reads_long d r asks
  asks_long ask.Local d r asks = local_long d r asks
  asks_long (ask.Change name) d r asks = change_long name d r asks

-- the first 524,289 bytes are enough
pub prefix_asks : (what : Ask) (whole prefix : List ℕ) → prefix ≡ take 524289 whole → (d : Device) (r : Result Document Declined)
    → AskOutcome what prefix d r → AskOutcome what whole d r
prefix_asks what whole prefix is d r asks =
    elim (cases_lt 524288 (length whole)) [
      | inl long ↦ asks_long whole prefix is long what d r asks
      | inr short ↦ subst (λ (bytes : List ℕ). AskOutcome what bytes d r) (is ∙ take_all 524289 whole (omega (arith, short))) asks
    ]
