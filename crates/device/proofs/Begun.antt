-- How a journal is found to begin.
use Rattle.std.proofs.Common.{◌≡◌, ◌≢◌, inl, inr, ℕ, ◌+◌, ◌<◌, List, [], ◌∷◌, ◌++◌, Bool, true, false, Result, Ok, Err, refl, sym, ap, subst, ◌∙◌, arith}
use Rattle.std.proofs.lemmas.Bool.{false≢true}
use Rattle.std.proofs.lemmas.List.{append-nil}
use Rattle.gate_log.specs.Place.{place_behind, IsEntryAt}
use Rattle.records.specs.Stored.{Record, Turned}
use Rattle.records.specs.Layout.{Spelled}
use Rattle.records.proofs.Layouts.{one_record}
use Rattle.device.specs.declared.device.Device as code
use Rattle.device.specs.declared.fault.ReplayFault.{ReplayFault}
use Rattle.device.specs.declared.fault.ReplayFault.TheVariants as fault
use Rattle.device.specs.Devices.{Device, device_view, no_device}
use Rattle.device.specs.Rebuilt.{MayRebuild}
use Rattle.device.specs.Standing.{IsTurn, is_turned, IsNoTurnBehind, LacksFrontAt, BeginsAt, BegunAt, TookFront}
use Rattle.device.proofs.Beginnings.{BeginsWithTurn, front_turns}
use Rattle.device.proofs.Walking.{Ahead, stops_first}

pub turned_turn : (p : List ℕ) (r : Record) → is_turned r ≡ true → Spelled p r → IsTurn p
turned_turn p (Turned n o g i c) is spelled = record { number = n; origin = o; groups = g; items = i; closed = c; spelled = spelled }
turned_turn p _ is spelled = absurd (false≢true is)

pub no_turn : (p : List ℕ) (r : Record) → is_turned r ≡ false → Spelled p r → IsTurn p → ⊥
no_turn p r is spelled turn =
    let same = one_record p r (Turned turn.number turn.origin turn.groups turn.items turn.closed) spelled turn.spelled in
    false≢true (sym is ∙ ap is_turned same)

pub none_spelled : (p : List ℕ) → ((r : Record) → Spelled p r → ⊥) → IsTurn p → ⊥
none_spelled p none turn = none (Turned turn.number turn.origin turn.groups turn.items turn.closed) turn.spelled

-- ---- no front

pub begins_empty : (payloads : List (List ℕ)) → place_behind payloads ≡ 0 → BeginsAt payloads no_device 0
begins_empty payloads none = record {
  front = [];
  after = payloads;
  split = refl;
  place = refl;
  means = inl refl;
  no_turn = λ p ps first turn. let same = ap place_behind first in absurd (omega (arith, none, same));
}

pub begins_plain : (payloads : List (List ℕ)) (a : Ahead payloads) → (IsTurn a.first → ⊥) → BeginsAt payloads no_device 0
begins_plain payloads a none = record {
  front = [];
  after = payloads;
  split = refl;
  place = refl;
  means = inl refl;
  no_turn = λ p ps first turn. let both : p ∷ ps ≡ a.first ∷ a.others = sym first ∙ a.is in let same : p ≡ a.first = cc in none (subst IsTurn same turn);
}

-- ---- the first entry

pub has_first : (payloads : List (List ℕ)) (end : ℕ) → end ≡ place_behind payloads → end ≢ 0 → Ahead payloads
has_first [] end is some = absurd (some is)
has_first (p ∷ ps) end is some = record { first = p; others = ps; is = refl }

pub first_at : {J Image : Type 0} (stands : J → Image → List (List ℕ) → Type 0) (log : J) (image : Image) (payloads : List (List ℕ)) (a : Ahead payloads) →
    stands log image payloads → IsEntryAt stands log image 0 a.first
first_at stands log image payloads a on = record { before = []; after = a.others; on = subst (stands log image) a.is on; at_is = refl }

-- ---- a front

no_turn_behind : (done : List (List ℕ)) (p : List ℕ) → BeginsWithTurn done → IsNoTurnBehind done p
no_turn_behind [] p turn = absurd turn
no_turn_behind (q ∷ done) p turn = tt

pub begins_anew : (payloads : List (List ℕ)) (a : Ahead payloads) → IsTurn a.first → (result : Result (code.Device × ℕ) ReplayFault) →
    TookFront payloads result → BegunAt payloads result
begins_anew payloads a turn (Ok r) took = record {
  front = took.front;
  after = took.after;
  split = took.split;
  place = took.place;
  means = inr (record {
    front = took.front;
    after = [];
    split = sym (append-nil took.front);
    records = took.records;
    spelled = took.spelled;
    begun =
        device_view r.0;
    is = took.is;
    plays = refl;
  });
  no_turn = λ p ps first. no_turn_behind took.front p (front_turns took.front took.records (device_view r.0) took.spelled took.is);
}
begins_anew payloads a turn (Err fault.Disk) took = tt
begins_anew payloads a turn (Err (fault.Damaged at)) took = record {
  first = a.first;
  others = a.others;
  split = a.is;
  turn = turn;
  none = took.1;
  place =
      took.0;
}
begins_anew payloads a turn (Err fault.NoMemory) took = tt

pub first_lacks : (payloads : List (List ℕ)) (a : Ahead payloads) (r : Record) → IsTurn a.first → Spelled a.first r → (MayRebuild r → ⊥)
    → LacksFrontAt payloads 0
first_lacks payloads a r turn spelled bad = record {
  first = a.first;
  others = a.others;
  split = a.is;
  turn = turn;
  none =
      stops_first payloads a.others a.first r a.is spelled bad;
  place = refl;
}
