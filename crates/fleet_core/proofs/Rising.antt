-- What devices take, by the replies: its revisions rise, and it was sent.
use Rattle.std.proofs.Common.{◌≡◌, ℕ, ◌<◌, ◌≤◌, Bool, true, false, List, [], ◌∷◌, ◌++◌, Some, refl, sym, ap, subst, ◌∙◌, arith, append_assoc}
use Rattle.std.specs.Prelude.{slice_get, Option, max, nat_lt, if◌then◌else◌, ◌==◌, ◌&&◌}
use Rattle.std.specs.Bool.{MatchBool}
use Rattle.std.specs.Option.{option_to_list}
use Rattle.std.specs.List.{AllByRecursion}
use Rattle.std.specs.Str.{bytes_eq}
use Rattle.std.proofs.lemmas.Slice.Eq.{bytes_eq-Decides}
use Rattle.fleet_core.specs.declared.packet.Packet.{Packet}
use Rattle.fleet_core.specs.declared.happening.Reply.{Reply}
use Rattle.fleet_core.specs.declared.happening.Reply.TheVariants.{Sent, Taken, Stale, Again, Gone, Lost, Restarted, Reported, Known}
use Rattle.fleet_core.specs.Events.{Event, each}
use Rattle.fleet_core.specs.Events.Event.{Sending, Delivery, Loss, Restarting, Reporting, Hearing}
use Rattle.fleet_core.specs.Meaning.{packets, sent_by, is_lost, arrived_by, is_to, highest, kept}
use Rattle.fleet_core.specs.Replies.{IsReply, verdict}
use Rattle.fleet_core.specs.Laws.{AreRepliesAfter, taken_by, taken, RisesFrom, WasSent, TakenRevisionsRise, TakenWasSent}
use Rattle.fleet_core.proofs.Along.{along-append, get-append}
use Rattle.fleet_core.proofs.Highest.{highest-head}
use Rattle.fleet_core.proofs.Lasting.{kept_stays, kept-step}

rises_lower : (low high : ℕ) (xs : List ℕ) → low ≤ high → RisesFrom high xs → RisesFrom low xs
rises_lower low high [] below rises = tt
rises_lower low high (x ∷ xs) below rises = (let first = rises.0 in omega (arith, first), rises.1)

-- ---- a test that holds

both : (a b : Bool) → (a && b) ≡ true → (a ≡ true) × (b ≡ true)
both true b is = (refl, is)
both false b is = absurd cc

-- a packet that is to this device and of this group
pub to_device : (d : ℕ) (g : List ℕ) (p : Packet) → is_to d g p ≡ true → p.device ≡ d
to_device d g p to = let first = (both (p.device == d) (bytes_eq p.group g) to).0 in grind (arith, first)

pub to_group : (d : ℕ) (g : List ℕ) (p : Packet) → is_to d g p ≡ true → p.group ≡ g
to_group d g p to = (bytes_eq-Decides p.group g).0 (both (p.device == d) (bytes_eq p.group g) to).1

-- what arrives where the packet was not lost
pub arrived-here : (past : List Event) (n : ℕ) (p : Packet) → is_lost past n ≡ false → slice_get (packets past) n ≡ Some p →
    arrived_by past (Delivery n) ≡ p ∷ []
arrived-here past n p here at =
    ap (λ (b : Bool). if b then [] else option_to_list (slice_get (packets past) n)) here ∙ ap (λ (o : Option Packet). option_to_list o) at

-- ---- one reply

rises_past : (past : List Event) (e : Event) (d : ℕ) (g rest : List ℕ) → RisesFrom (kept (past ++ e ∷ []) d g) rest → RisesFrom (kept past d g) rest
rises_past past e d g rest rises = rises_lower (kept past d g) (kept (past ++ e ∷ []) d g) rest (kept_stays past (e ∷ []) d g) rises

abbrev TakesOn : List Event → Event → ℕ → List ℕ → List ℕ → Reply → Type 0
TakesOn past e d g rest r = RisesFrom (kept past d g) (taken_by d g r ++ rest)

took : (past : List Event) (n : ℕ) (p : Packet) (d : ℕ) (g rest : List ℕ) → is_lost past n ≡ false → slice_get (packets past) n ≡ Some p →
    kept past p.device p.group < p.revision
    → RisesFrom (kept (past ++ Delivery n ∷ []) d g) rest → (b : Bool) → is_to d g p ≡ b →
    RisesFrom (kept past d g) ((if b then p.revision ∷ [] else []) ++ rest)
took past n p d g rest here at newer rises true to =
    let above : kept past d g < p.revision = subst (λ (x : ℕ). kept past x g < p.revision) (to_device d g p to)
    (subst (λ (x : List ℕ). kept past p.device x < p.revision) (to_group d g p to) newer) in
    let arrived = kept-step past (Delivery n) d g ∙ ap (λ (l : List Packet). max (kept past d g) (highest d g l)) (arrived-here past n p here at) in
    let one = highest-head d g p [] to in
    (above, rises_lower p.revision (kept (past ++ Delivery n ∷ []) d g) rest (omega (arith, arrived, one)) rises)
took past n p d g rest here at newer rises false to = rises_past past (Delivery n) d g rest rises

told_verdict : (past : List Event) (n : ℕ) (p : Packet) (d : ℕ) (g rest : List ℕ) → is_lost past n ≡ false → slice_get (packets past) n ≡ Some p
    → RisesFrom (kept (past ++ Delivery n ∷ []) d g) rest → TakesOn past (Delivery n) d g rest (verdict p (kept past p.device p.group))
told_verdict past n p d g rest here at rises = by (nat_lt (kept past p.device p.group) p.revision) refl (nat_lt p.revision (kept past p.device p.group))
  where
    by : (b : Bool) → nat_lt (kept past p.device p.group) p.revision ≡ b → (c : Bool)
        → TakesOn past (Delivery n) d g rest (if b then Taken p.device p.group p.revision else if c then Stale p.device p.group (kept past p.device p.group)
        else Again p.device p.group (kept past p.device p.group))
    by true newer c = took past n p d g rest here at (grind (arith, newer)) rises (is_to d g p) refl
    by false newer true = rises_past past (Delivery n) d g rest rises
    by false newer false = rises_past past (Delivery n) d g rest rises

takes_on : (past : List Event) (e : Event) (r : Reply) (d : ℕ) (g rest : List ℕ) → IsReply past e r → RisesFrom (kept (past ++ e ∷ []) d g) rest →
    TakesOn past e d g rest r
takes_on past (Sending p) r d g rest is rises = subst (TakesOn past (Sending p) d g rest) (sym is) (rises_past past (Sending p) d g rest rises)
takes_on past (Delivery n) r d g rest is rises = by (is_lost past n) refl is
  where
    by : (b : Bool) → is_lost past n ≡ b → MatchBool b (r ≡ Gone n) ((p : Packet) × (slice_get (packets past) n ≡ Some p) ×
        (r ≡ verdict p (kept past p.device p.group))) → TakesOn past (Delivery n) d g rest r
    by true lost is = subst (TakesOn past (Delivery n) d g rest) (sym is) (rises_past past (Delivery n) d g rest rises)
    by false lost is = subst (TakesOn past (Delivery n) d g rest) (sym is.2) (told_verdict past n is.0 d g rest lost is.1 rises)
takes_on past (Loss n) r d g rest is rises = subst (TakesOn past (Loss n) d g rest) (sym is) (rises_past past (Loss n) d g rest rises)
takes_on past (Restarting n) r d g rest is rises = subst (TakesOn past (Restarting n) d g rest) (sym is) (rises_past past (Restarting n) d g rest rises)
takes_on past (Reporting n) r d g rest is rises = subst (TakesOn past (Reporting n) d g rest) (sym is) (rises_past past (Reporting n) d g rest rises)
takes_on past (Hearing n) r d g rest is rises = subst (TakesOn past (Hearing n) d g rest) (sym is.3) (rises_past past (Hearing n) d g rest rises)

taken_rises : (past events : List Event) (replies : List Reply) (d : ℕ) (g : List ℕ) → AreRepliesAfter past events replies →
    RisesFrom (kept past d g) (taken d g replies)
taken_rises past [] [] d g are = tt
taken_rises past [] (r ∷ rs) d g are = absurd are
taken_rises past (e ∷ es) [] d g are = absurd are
taken_rises past (e ∷ es) (r ∷ rs) d g are = takes_on past e r d g (taken d g rs) are.0 (taken_rises (past ++ e ∷ []) es rs d g are.1)

pub taken_revisions_rise : TakenRevisionsRise
taken_revisions_rise events replies d g are = taken_rises [] events replies d g are

-- ---- what is taken was sent

verdict_was_sent : (past : List Event) (n k : ℕ) (p : Packet) → slice_get (packets past) n ≡ Some p → WasSent (packets past) (verdict p k)
verdict_was_sent past n k p at = by (nat_lt k p.revision) (nat_lt p.revision k)
  where
    by : (b c : Bool) → WasSent (packets past) (if b then Taken p.device p.group p.revision else if c then Stale p.device p.group k else Again
        p.device p.group k)
    by true c = (n, at)
    by false true = tt
    by false false = tt

reply_was_sent : (past : List Event) (e : Event) (r : Reply) → IsReply past e r → WasSent (packets past) r
reply_was_sent past (Sending p) r is = subst (WasSent (packets past)) (sym is) tt
reply_was_sent past (Delivery n) r is = by (is_lost past n) is
  where
    by : (b : Bool) → MatchBool b (r ≡ Gone n) ((p : Packet) × (slice_get (packets past) n ≡ Some p) × (r ≡ verdict p (kept past p.device p.group))) →
        WasSent (packets past) r
    by true is = subst (WasSent (packets past)) (sym is) tt
    by false is = subst (WasSent (packets past)) (sym is.2) (verdict_was_sent past n (kept past is.0.device is.0.group) is.0 is.1)
reply_was_sent past (Loss n) r is = subst (WasSent (packets past)) (sym is) tt
reply_was_sent past (Restarting n) r is = subst (WasSent (packets past)) (sym is) tt
reply_was_sent past (Reporting n) r is = subst (WasSent (packets past)) (sym is) tt
reply_was_sent past (Hearing n) r is = subst (WasSent (packets past)) (sym is.3) tt

more_sent : (ps qs : List Packet) (r : Reply) → WasSent ps r → WasSent (ps ++ qs) r
more_sent ps qs (Sent n) was = tt
more_sent ps qs (Taken d g revision) was = (was.0, get-append ps qs was.0 (record { device = d; group = g; revision = revision }) was.1)
more_sent ps qs (Stale d g revision) was = tt
more_sent ps qs (Again d g revision) was = tt
more_sent ps qs (Gone n) was = tt
more_sent ps qs (Lost n) was = tt
more_sent ps qs (Restarted d) was = tt
more_sent ps qs (Reported n) was = tt
more_sent ps qs (Known d list) was = tt

were_sent : (past events : List Event) (replies : List Reply) → AreRepliesAfter past events replies →
    AllByRecursion (WasSent (packets (past ++ events))) replies
were_sent past [] [] are = tt
were_sent past [] (r ∷ rs) are = absurd are
were_sent past (e ∷ es) [] are = absurd are
were_sent past (e ∷ es) (r ∷ rs) are = (
  subst (λ (ps : List Packet). WasSent ps r) (sym (along-append sent_by past (e ∷ es)))
      (more_sent (packets past) (each sent_by past (e ∷ es)) r (reply_was_sent past e r are.0)),
  subst (λ (l : List Event). AllByRecursion (WasSent (packets l)) rs) (append_assoc past (e ∷ []) es) (were_sent (past ++ e ∷ []) es rs are.1),
)

pub taken_was_sent : TakenWasSent
taken_was_sent events replies are = were_sent [] events replies are
