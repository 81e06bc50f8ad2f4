-- A walk over the journal's entries.
use Rattle.std.proofs.Common.{◌≡◌, ◌≢◌, ℕ, ◌+◌, ◌≤◌, ◌<◌, Bool, true, false, List, [], ◌∷◌, ◌++◌, length, Option, Some, None, refl, sym, ap, subst, ◌∙◌}
use Rattle.std.proofs.Common.{append_assoc, arith, is_some, inl, inr, Err}
use Rattle.std.specs.Prelude.{if◌then◌else◌, option_map, ◌&&◌, nat_lt}
use Rattle.std.proofs.lemmas.Bool.{ltb-true, ltb-false}
use Rattle.std.specs.Option.{IfSome, IsSome, IsSomeAnd}
use Rattle.std.proofs.lemmas.Option.{none-some}
use Rattle.std.specs.List.{AllByRecursion, AllZip}
use Rattle.std.proofs.lemmas.List.{append-nil, append_cancel_left}
use Rattle.gate_log.specs.Entries.{most_file}
use Rattle.gate_log.specs.Place.{place_behind, IsEntryAt}
use Rattle.records.specs.Stored.{Plan, Record, Genesis, Accepted, BootBegun, BootEnded, Activating, StepFailed, Failing, FailingBack, Closed}
use Rattle.records.specs.Layout.{Spelled}
use Rattle.records.proofs.Layouts.{one_record}
use Rattle.device.specs.declared.device.Device as code
use Rattle.device.specs.declared.staged.Pending as code_pending
use Rattle.device.specs.declared.fault.ReplayFault.{ReplayFault}
use Rattle.device.specs.declared.fault.ReplayFault.TheVariants as fault
use Rattle.device.specs.Devices.{Device, Pending, no_device, device_view, pending_view}
use Rattle.records.specs.declared.record.Origin.{Origin}
use Rattle.device.specs.Lawful.{Allowed, applied, MayAccept, MayBegin, MayEnd, MayActivate, MayFail, MayBreak, MayGoBack, MayClose}
use Rattle.device.specs.Standing.{IsPayload, ArePayloads, IsMeant, IsNoTurnBehind, SpellsNoPlan}
use Rattle.device.specs.Standing.{IsBehindAccepted, IsBadAt, LacksRoomAt, IsDamagedAt, HasSpace, Replayed}
use Rattle.device.specs.Standing.{TookEntry, BeginsAt, BegunAt}
use Rattle.device.specs.Limits.{room_of_plan}

-- the walk is at this place, d is the device there, and behind its pending plan's entry is this place
pub record Reached (payloads : List (List ℕ)) (end at behind : ℕ) (d : Device) : Type 0 where
  pub done : List (List ℕ)
  pub rest : List (List ℕ)
  pub split : payloads ≡ done ++ rest
  pub at_is : at ≡ place_behind done
  pub end_is : end ≡ place_behind payloads
  pub means : IsMeant done d
  pub no_turn : (p : List ℕ) (ps : List (List ℕ)) → rest ≡ p ∷ ps → IsNoTurnBehind done p
  pub behind_is : IfSome d.pending (λ q. IsBehindAccepted done behind)

idle_behind : (done : List (List ℕ)) (behind : ℕ) (o : Option Pending) → o ≡ None → IfSome o (λ q. IsBehindAccepted done behind)
idle_behind done behind None is = tt
idle_behind done behind (Some q) is = absurd cc

-- at the beginning, where no plan is pending
pub starts : (payloads : List (List ℕ)) (end at behind : ℕ) (d : Device) → end ≡ place_behind payloads → d.pending ≡ None → BeginsAt payloads d at →
    Reached payloads end at behind d
starts payloads end at behind d is idle begins = record {
  done = begins.front;
  rest = begins.after;
  split = begins.split;
  at_is = begins.place;
  end_is = is;
  means = begins.means;
  no_turn = begins.no_turn;
  behind_is = idle_behind begins.front behind d.pending idle;
}

pub place_on : (a b : List (List ℕ)) → place_behind (a ++ b) ≡ place_behind a + place_behind b
place_on [] b = omega arith
place_on (p ∷ a) b = omega (arith, place_on a b)

-- what stands at a place before the end
pub record Next (payloads done : List (List ℕ)) : Type 0 where
  pub first : List ℕ
  pub others : List (List ℕ)
  pub split : payloads ≡ done ++ first ∷ others

pub next : (payloads : List (List ℕ)) (end at behind : ℕ) (d : Device) (r : Reached payloads end at behind d) → at < end → Next payloads r.done
next payloads end at behind d r lt = by r.rest r.split
  where
    by : (rest : List (List ℕ)) → payloads ≡ r.done ++ rest → Next payloads r.done
    by [] split = let same = ap place_behind (split ∙ append-nil r.done) in absurd (omega (arith, lt, r.at_is, r.end_is, same))
    by (p ∷ ps) split = record { first = p; others = ps; split = split }

-- it is an entry of any journal that stands behind these payloads
pub entry_at : {J Image : Type 0} (stands : J → Image → List (List ℕ) → Type 0) (log : J) (image : Image) (payloads : List (List ℕ)) (end at behind : ℕ)
    (d : Device) (r : Reached payloads end at behind d) (n : Next payloads r.done)
    → stands log image payloads → IsEntryAt stands log image at n.first
entry_at stands log image payloads end at behind d r n on = record {
  before = r.done;
  after = n.others;
  on = subst (stands log image) n.split on;
  at_is =
      r.at_is;
}

plays_more : (ps : List (List ℕ)) (p : List ℕ) (d c e : Device) → ArePayloads d ps c → IsPayload c p e → ArePayloads d (ps ++ p ∷ []) e
plays_more [] p d c e h t = (e, subst (λ x. IsPayload x p e) h t, refl)
plays_more (q ∷ ps) p d c e h t = (h.0, h.1, plays_more ps p h.0 c e h.2 t)

means_more : (ps : List (List ℕ)) (p : List ℕ) (c e : Device) → IsMeant ps c → IsPayload c p e → IsMeant (ps ++ p ∷ []) e
means_more ps p c e (inl plays) t = inl (plays_more ps p no_device c e plays t)
means_more ps p c e (inr anew) t = inr (record {
  front = anew.front;
  after = anew.after ++ p ∷ [];
  split = ap (λ (l : List (List ℕ)). l ++ p ∷ []) anew.split ∙ append_assoc anew.front anew.after (p ∷ []);
  records = anew.records;
  spelled = anew.spelled;
  begun = anew.begun;
  is = anew.is;
  plays = plays_more anew.after p anew.begun c e anew.plays t;
})

no_turn_later : (done : List (List ℕ)) (x p : List ℕ) → IsNoTurnBehind (done ++ x ∷ []) p
no_turn_later [] x p = tt
no_turn_later (q ∷ done) x p = tt

pub place_more : (ps : List (List ℕ)) (p : List ℕ) → place_behind (ps ++ p ∷ []) ≡ place_behind ps + (5 + length p)
place_more [] p = omega arith
place_more (q ∷ ps) p = omega (arith, place_more ps p)

-- ---- the place behind the pending plan's entry

no_plan_more : (ps : List (List ℕ)) (p : List ℕ) → AllByRecursion SpellsNoPlan ps → SpellsNoPlan p → AllByRecursion SpellsNoPlan (ps ++ p ∷ [])
no_plan_more [] p h n = (n, tt)
no_plan_more (q ∷ ps) p h n = (h.0, no_plan_more ps p h.1 n)

still_behind : (done : List (List ℕ)) (p : List ℕ) (behind : ℕ) → SpellsNoPlan p → IsBehindAccepted done behind → IsBehindAccepted (done ++ p ∷ []) behind
still_behind done p behind none b = record {
  before = b.before;
  payload = b.payload;
  after = b.after ++ p ∷ [];
  split = ap (λ ps. ps ++ p ∷ []) b.split ∙ append_assoc b.before (b.payload ∷ b.after) (p ∷ []);
  plan = b.plan;
  spelled = b.spelled;
  last = no_plan_more b.after p b.last none;
  place = b.place;
}

now_behind : (done : List (List ℕ)) (p : List ℕ) (to : ℕ) (plan : Plan) → Spelled p (Accepted plan) → to ≡ place_behind (done ++ p ∷ []) →
    IsBehindAccepted (done ++ p ∷ []) to
now_behind done p to plan spelled is = record { before = done; payload = p; after = []; split = refl; plan = plan; spelled = spelled; last = tt; place = is }

if_some : {A P : Type 0} (o : Option A) → P → IfSome o (λ _. P)
if_some None p = tt
if_some (Some x) p = p

abbrev is_accepted : Record → Bool
is_accepted (Accepted p) = true
is_accepted _ = false

spells_none : (p : List ℕ) (r : Record) → Spelled p r → is_accepted r ≡ false → SpellsNoPlan p
spells_none p r spelled other plan s = let is = ap is_accepted (one_record p r (Accepted plan) spelled s) in cc (is, other)

nothing : {A : Type 0} (P : A → Type 0) (o : Option A) → o ≡ None → IsSomeAnd o P → ⊥
nothing P None is h = h
nothing P (Some x) is h = absurd cc

-- a record that is taken with nothing pending, and leaves a plan pending, is its Accepted
first_behind : (done : List (List ℕ)) (p : List ℕ) (to : ℕ) (d : Device) (r : Record) → d.pending ≡ None → Spelled p r → Allowed d r →
    to ≡ place_behind (done ++ p ∷ [])
    → IfSome (applied d r).pending (λ q. IsBehindAccepted (done ++ p ∷ []) to)
first_behind done p to d (Genesis o) none spelled allowed is = subst (λ (x : Option Pending). IfSome x (λ q. IsBehindAccepted (done ++ p ∷ []) to))
    (sym none) tt
first_behind done p to d (Accepted plan) none spelled allowed is = now_behind done p to plan spelled is
first_behind done p to d (BootBegun n) none spelled allowed is = absurd (nothing (MayBegin n) d.pending none allowed)
first_behind done p to d (BootEnded n e) none spelled allowed is = absurd (nothing (MayEnd n) d.pending none allowed)
first_behind done p to d Activating none spelled allowed is = absurd (nothing MayActivate d.pending none allowed)
first_behind done p to d (StepFailed n s e) none spelled allowed is = absurd (nothing (MayFail d.set n s e) d.pending none allowed)
first_behind done p to d (Failing n) none spelled allowed is = absurd (nothing (MayBreak n) d.pending none allowed)
first_behind done p to d (FailingBack n) none spelled allowed is = absurd (nothing (MayGoBack d.origin d.set n) d.pending none allowed)
first_behind done p to d (Closed o) none spelled allowed is = absurd (nothing (λ q. MayClose q o) d.pending none allowed)
first_behind done p to d _ none spelled allowed is = absurd allowed

may_accept_alone : (d : Device) (p : Plan) (o : Option Origin) → IsSomeAnd o (MayAccept d p) → d.pending ≡ None
may_accept_alone d p None h = absurd h
may_accept_alone d p (Some o) h = h.0.0

-- a record that is taken with a plan pending is no Accepted
later_behind : (done : List (List ℕ)) (p : List ℕ) (behind : ℕ) (d : Device) (r : Record) → d.pending ≢ None → Spelled p r → Allowed d r →
    IsBehindAccepted done behind
    → IsBehindAccepted (done ++ p ∷ []) behind
later_behind done p behind d (Accepted plan) some spelled allowed is = absurd (some (may_accept_alone d plan d.origin allowed))
later_behind done p behind d r some spelled allowed is = still_behind done p behind (spells_none p r spelled refl) is

behind_goes_on : (done : List (List ℕ)) (p : List ℕ) (behind to : ℕ) (d c : Device) → IsPayload d p c → to ≡ place_behind (done ++ p ∷ []) →
    IfSome d.pending (λ q. IsBehindAccepted done behind)
    → IfSome c.pending (λ q. IsBehindAccepted (done ++ p ∷ []) (if is_some d.pending then behind else to))
behind_goes_on done p behind to d c t is h =
    subst (λ (x : Device). IfSome x.pending (λ q. IsBehindAccepted (done ++ p ∷ []) (if is_some d.pending then behind else to))) (sym t.lawful.leaves)
    (by d.pending refl h)
  where
    by : (o : Option Pending) → d.pending ≡ o → IfSome o (λ q. IsBehindAccepted done behind) →
        IfSome (applied d t.entry).pending (λ q. IsBehindAccepted (done ++ p ∷ []) (if is_some o then behind else to))
    by None none h = first_behind done p to d t.entry none t.spelled t.lawful.allowed is
    by (Some q) some h = if_some (applied d t.entry).pending
        (later_behind done p behind d t.entry (λ none. let both : None ≡ Some q = sym none ∙ some in none-some q both) t.spelled t.lawful.allowed h)

-- ---- the walk

goes_on : (payloads : List (List ℕ)) (end at behind to : ℕ) (d c : Device) (r : Reached payloads end at behind d) (n : Next payloads r.done)
    → to ≡ at + 5 + length n.first → IsPayload d n.first c → Reached payloads end to (if is_some d.pending then behind else to) c
goes_on payloads end at behind to d c r n to_is t =
    let place : to ≡ place_behind (r.done ++ n.first ∷ []) = omega (arith, to_is, r.at_is, place_more r.done n.first) in
    record {
      done = r.done ++ n.first ∷ [];
      rest = n.others;
      split = n.split ∙ sym (append_assoc r.done (n.first ∷ []) n.others);
      at_is = place;
      end_is = r.end_is;
      means = means_more r.done n.first d c r.means t;
      no_turn = λ p ps first. no_turn_later r.done n.first p;
      behind_is = behind_goes_on r.done n.first behind to d c t place r.behind_is;
    }

is_bad : (payloads : List (List ℕ)) (end at behind : ℕ) (d : Device) (r : Reached payloads end at behind d) (n : Next payloads r.done)
    → ((c : Device) → IsPayload d n.first c → ⊥) → IsBadAt payloads at
is_bad payloads end at behind d r n refused = record {
  before = r.done;
  bad = n.first;
  behind = n.others;
  split = n.split;
  place = r.at_is;
  reached = d;
  means = r.means;
  no_turn = r.no_turn n.first n.others (append_cancel_left r.done r.rest (n.first ∷ n.others) (sym r.split ∙ n.split));
  refused = refused;
}

-- the walk is at the end
record Ended (payloads : List (List ℕ)) (behind : ℕ) (d : Device) : Type 0 where
  means : IsMeant payloads d
  behind_is : IfSome d.pending (λ q. IsBehindAccepted payloads behind)

ended : (payloads : List (List ℕ)) (end at behind : ℕ) (d : Device) → Reached payloads end at behind d → end ≤ at → Ended payloads behind d
ended payloads end at behind d r le = by r.rest r.split
  where
    by : (rest : List (List ℕ)) → payloads ≡ r.done ++ rest → Ended payloads behind d
    by [] split =
        let all = sym (split ∙ append-nil r.done) in
        record {
          means = subst (λ ps. IsMeant ps d) all r.means;
          behind_is = subst (λ ps. IfSome d.pending (λ q. IsBehindAccepted ps behind)) all r.behind_is;
        }
    by (p ∷ ps) split = let same = ap place_behind split in absurd (omega (arith, le, r.at_is, r.end_is, same, place_on r.done (p ∷ ps)))

is_all : (payloads : List (List ℕ)) (end at behind : ℕ) (d : Device) → Reached payloads end at behind d → end ≤ at →
    (IsSome d.pending → behind + room_of_plan ≤ most_file)
    → IsMeant payloads d × HasSpace payloads d
is_all payloads end at behind d r le room = let e = ended payloads end at behind d r le in (e.means, by d.pending e.behind_is room)
  where
    by : (o : Option Pending) → IfSome o (λ q. IsBehindAccepted payloads behind) → (IsSome o → behind + room_of_plan ≤ most_file) →
        IfSome o (λ q. (at : ℕ) × IsBehindAccepted payloads at × (at + room_of_plan ≤ most_file))
    by None is room = tt
    by (Some q) is room = (behind, is, room refl)

lacks_room : (payloads : List (List ℕ)) (end at behind : ℕ) (d : Device) → Reached payloads end at behind d → end ≤ at → IsSome d.pending →
    most_file < behind + room_of_plan → LacksRoomAt payloads behind
lacks_room payloads end at behind d r le some lacks =
    let e = ended payloads end at behind d r le in
    record { reached = d; means = e.means; pending = some; behind = by d.pending some e.behind_is; lacks = lacks }
  where
    by : (o : Option Pending) → IsSome o → IfSome o (λ q. IsBehindAccepted payloads behind) → IsBehindAccepted payloads behind
    by None some is = absurd cc
    by (Some q) some is = is

-- ---- as the code has the device

shown : (o : Option code_pending.Pending) → is_some (option_map pending_view o) ≡ is_some o
shown None = refl
shown (Some q) = refl

pub first_on : (payloads : List (List ℕ)) (end at behind to : ℕ) (device : code.Device) (c : Device) (r : Reached payloads end at behind (device_view device))
    (n : Next payloads r.done)
    → to ≡ at + 5 + length n.first → IsPayload (device_view device) n.first c → is_some device.pending ≡ false → Reached payloads end to to c
first_on payloads end at behind to device c r n to_is t none =
    subst (λ (b : Bool). Reached payloads end to (if b then behind else to) c) (shown device.pending ∙ none)
    (goes_on payloads end at behind to (device_view device) c r n to_is t)

pub later_on : (payloads : List (List ℕ)) (end at behind to : ℕ) (device : code.Device) (c : Device) (r : Reached payloads end at behind (device_view device))
    (n : Next payloads r.done)
    → to ≡ at + 5 + length n.first → IsPayload (device_view device) n.first c → is_some device.pending ≡ true → Reached payloads end to behind c
later_on payloads end at behind to device c r n to_is t some =
    subst (λ (b : Bool). Reached payloads end to (if b then behind else to) c) (shown device.pending ∙ some)
    (goes_on payloads end at behind to (device_view device) c r n to_is t)

pub fault_told : (payloads : List (List ℕ)) (end at behind : ℕ) (d e : Device) (r : Reached payloads end at behind d) (n : Next payloads r.done)
    (f : ReplayFault)
    → TookEntry d at n.first e (Err f) → Replayed payloads (Err f)
fault_told payloads end at behind d e r n fault.Disk took = tt
fault_told payloads end at behind d e r n (fault.Damaged place) took = inl (subst (IsBadAt payloads) (sym took.0) (is_bad payloads end at behind d r n took.1))
fault_told payloads end at behind d e r n fault.NoMemory took = tt

-- where the beginning has a fault
pub begin_fault : (payloads : List (List ℕ)) (f : ReplayFault) → BegunAt payloads (Err f) → Replayed payloads (Err f)
begin_fault payloads fault.Disk begun = tt
begin_fault payloads (fault.Damaged place) begun = inr (inr begun)
begin_fault payloads fault.NoMemory begun = tt

-- as the code has its device without a pending plan
pub idle_view : (o : Option code_pending.Pending) → o ≡ None → option_map pending_view o ≡ None
idle_view None is = refl
idle_view (Some q) is = absurd cc

both_true : (a b : Bool) → (a && b) ≡ true → (a ≡ true) × (b ≡ true)
both_true true b h = (refl, h)
both_true false b h = absurd cc

first_true : (a b : Bool) → (a && b) ≡ false → a ≡ true → b ≡ false
first_true true b h is = h
first_true false b h is = absurd cc

pub room_lacks : (payloads : List (List ℕ)) (end at behind : ℕ) (device : code.Device) → Reached payloads end at behind (device_view device) → end ≤ at
    → (is_some device.pending && nat_lt most_file (behind + room_of_plan)) ≡ true → IsDamagedAt payloads behind
room_lacks payloads end at behind device r le lacks =
    let h = both_true (is_some device.pending) (nat_lt most_file (behind + room_of_plan)) lacks in
    inr (inl (lacks_room payloads end at behind (device_view device) r le (shown device.pending ∙ h.0) (ltb-true most_file (behind + room_of_plan) h.1)))

pub has_room : (payloads : List (List ℕ)) (end at behind : ℕ) (device : code.Device) → Reached payloads end at behind (device_view device) → end ≤ at
    → (is_some device.pending && nat_lt most_file (behind + room_of_plan)) ≡ false → IsMeant payloads (device_view device)
    × HasSpace payloads (device_view device)
has_room payloads end at behind device r le room =
    is_all payloads end at behind (device_view device) r le
    (λ some. ltb-false most_file (behind + room_of_plan) (first_true (is_some device.pending) (nat_lt most_file (behind + room_of_plan)) room
    (sym (shown device.pending) ∙ some)))
