-- How a fleet goes on standing for its events, event by event.
use Rattle.std.proofs.Common.{◌≡◌, ℕ, zero, suc, ◌+◌, ◌<◌, ◌≤◌, Bool, true, false, List, [], ◌∷◌, ◌++◌, Some, length, refl, sym, ap, subst, ◌∙◌, arith, inl}
use Rattle.std.proofs.Common.{inr}
use Rattle.std.specs.Prelude.{slice_get, slice_set, Option, map, max, ◌||◌, ◌&&◌, ◌==◌, ◌⊎◌, if◌then◌else◌}
use Rattle.std.specs.Option.{option_to_list}
use Rattle.std.specs.Str.{bytes_eq}
use Rattle.std.proofs.lemmas.List.{map-append, length_push, length-map, length-set}
use Rattle.std.proofs.lemmas.Option.{slice_get_within}
use Rattle.std.proofs.lemmas.Slice.Eq.{bytes_eq-Decides}
use Rattle.fleet_core.specs.declared.packet.Packet.{Packet}
use Rattle.fleet_core.specs.declared.packet.Sent.{Sent}
use Rattle.fleet_core.specs.Events.{Event}
use Rattle.fleet_core.specs.Events.Event.{Sending, Delivery, Loss, Restarting, Reporting, Hearing}
use Rattle.fleet_core.specs.Meaning.{packets, sent_by, loses, is_lost, arrived_by, is_to, highest, told, kept, known, Report, reports, reported_by, heard_by}
use Rattle.fleet_core.specs.Takings.{level}
use Rattle.fleet_core.specs.Keeping.{Keeping, takings_of, HasTakenOne}
use Rattle.fleet_core.specs.Fleets.{FleetState, StandsFor}
use Rattle.fleet_core.proofs.Along.{along-step, along-same}
use Rattle.fleet_core.proofs.Highest.{highest-head, highest-other}
use Rattle.fleet_core.proofs.Lasting.{kept-step, known-step}
use Rattle.fleet_core.proofs.Levels.{level-later, level-now, level-max}
use Rattle.fleet_core.proofs.Rising.{to_device, to_group, arrived-here}

-- ---- lists

pub get-push : {X : Type 0} (xs : List X) (y x : X) (n : ℕ) → slice_get (xs ++ y ∷ []) n ≡ Some x → (slice_get xs n ≡ Some x) ⊎ ((n ≡ length xs) × (x ≡ y))
get-push [] y x zero at = inr (refl, cc)
get-push [] y x (suc n) at = absurd cc
get-push (z ∷ xs) y x zero at = inl at
get-push (z ∷ xs) y x (suc n) at = by (get-push xs y x n at)
  where
    by : (slice_get xs n ≡ Some x) ⊎ ((n ≡ length xs) × (x ≡ y)) → (slice_get (z ∷ xs) (suc n) ≡ Some x) ⊎ ((suc n ≡ length (z ∷ xs)) × (x ≡ y))
    by (inl old) = inl old
    by (inr (end, is)) = inr (omega (arith, end), is)

pub get-last : {X : Type 0} (xs : List X) (y : X) → slice_get (xs ++ y ∷ []) (length xs) ≡ Some y
get-last [] y = refl
get-last (x ∷ xs) y = get-last xs y

-- an element of a list with one element written
pub get-set : {X : Type 0} (xs : List X) (i : ℕ) (y x : X) (n : ℕ) → slice_get (slice_set xs i y) n ≡ Some x → ((n ≡ i) × (x ≡ y)) ⊎
    ((n ≡ i → ⊥) × (slice_get xs n ≡ Some x))
get-set [] i y x n at = absurd cc
get-set (z ∷ xs) zero y x zero at = inl (refl, cc)
get-set (z ∷ xs) zero y x (suc n) at = inr ((λ is. absurd (omega (arith, is))), at)
get-set (z ∷ xs) (suc i) y x zero at = inr ((λ is. absurd (omega (arith, is))), at)
get-set (z ∷ xs) (suc i) y x (suc n) at = by (get-set xs i y x n at)
  where
    by : ((n ≡ i) × (x ≡ y)) ⊎ ((n ≡ i → ⊥) × (slice_get xs n ≡ Some x)) → ((suc n ≡ suc i) × (x ≡ y)) ⊎
        ((suc n ≡ suc i → ⊥) × (slice_get (z ∷ xs) (suc n) ≡ Some x))
    by (inl (here, is)) = inl (ap suc here, is)
    by (inr (away, old)) = inr ((λ is. away (omega (arith, is))), old)

-- what a list is seen as stays where the written element is seen as the old one
pub map-set : {X Y : Type 0} (f : X → Y) (xs : List X) (i : ℕ) (y x : X) → slice_get xs i ≡ Some x → f y ≡ f x → map f (slice_set xs i y) ≡ map f xs
map-set f [] i y x at same = refl
map-set f (z ∷ xs) zero y x at same = let is : z ≡ x = cc in ap (λ w. w ∷ map f xs) (same ∙ ap f (sym is))
map-set f (z ∷ xs) (suc i) y x at same = ap (λ l. f z ∷ l) (map-set f xs i y x at same)

-- ---- what one event changes

or-false : (b : Bool) → (b || false) ≡ b
or-false true = refl
or-false false = refl

pub lost-step : (past : List Event) (e : Event) (n : ℕ) → is_lost (past ++ e ∷ []) n ≡ (is_lost past n || loses n e)
lost-step [] e n = or-false (loses n e)
lost-step (f ∷ past) e n = by (loses n f) (lost-step past e n)
  where
    by : (b : Bool) → is_lost (past ++ e ∷ []) n ≡ (is_lost past n || loses n e) → (b || is_lost (past ++ e ∷ []) n) ≡ ((b || is_lost past n) || loses n e)
    by true rest = refl
    by false rest = rest

pub lost-same : (past : List Event) (e : Event) (n : ℕ) → loses n e ≡ false → is_lost (past ++ e ∷ []) n ≡ is_lost past n
lost-same past e n none = lost-step past e n ∙ ap (λ b. is_lost past n || b) none ∙ or-false (is_lost past n)

pub kept-same : (past : List Event) (e : Event) (d : ℕ) (g : List ℕ) → highest d g (arrived_by past e) ≤ kept past d g →
    kept (past ++ e ∷ []) d g ≡ kept past d g
kept-same past e d g low = let step = kept-step past e d g in omega (arith, step)

pub known-same : (past : List Event) (e : Event) (d : ℕ) (g : List ℕ) → heard_by past e ≡ [] → known (past ++ e ∷ []) d g ≡ known past d g
known-same past e d g none = ap (told d g) (along-same heard_by past e none)

-- ---- an event that changes nothing that is kept or known

pub record IsQuiet (past : List Event) (e : Event) : Type 0 where
  pub sent : sent_by past e ≡ []
  pub lost : (n : ℕ) → loses n e ≡ false
  pub reported : reported_by past e ≡ []
  pub heard : heard_by past e ≡ []
  pub arrived : (d : ℕ) (g : List ℕ) → highest d g (arrived_by past e) ≤ kept past d g

pub quiet_stands : (fleet : FleetState) (past : List Event) (e : Event) → IsQuiet past e → StandsFor fleet past → StandsFor fleet (past ++ e ∷ [])
quiet_stands fleet past e quiet stands =
    let packets_same = along-same sent_by past e quiet.sent in
    let reports_same = along-same reported_by past e quiet.reported in
    record {
      sent = stands.sent ∙ sym packets_same;
      lost = λ n s at. stands.lost n s at ∙ sym (lost-same past e n (quiet.lost n));
      unsent = λ n end. lost-same past e n (quiet.lost n) ∙ stands.unsent n end;
      reporters = stands.reporters ∙ ap (λ (l : List Report). map (λ r. r.device) l) (sym reports_same);
      keeps = λ d k device g at after. stands.keeps d k device g at after ∙ sym (kept-same past e d g (quiet.arrived d g));
      reported = λ n r device g at there. stands.reported n r device g (subst (λ (l : List Report). slice_get l n ≡ Some r) reports_same at) there;
      knows = λ d device g at. stands.knows d device g at ∙ sym (known-same past e d g quiet.heard);
      hears = stands.hears;
    }

pub quiet_restarting : (past : List Event) (d : ℕ) → IsQuiet past (Restarting d)
quiet_restarting past d = record { sent = refl; lost = λ n. refl; reported = refl; heard = refl; arrived = λ e g. omega arith }

-- a packet that was lost
pub quiet_gone : (past : List Event) (n : ℕ) → is_lost past n ≡ true → IsQuiet past (Delivery n)
quiet_gone past n lost = record {
  sent = refl;
  lost = λ m. refl;
  reported = refl;
  heard = refl;
  arrived = λ d g. subst (λ (b : Bool). highest d g (if b then [] else option_to_list (slice_get (packets past) n)) ≤ kept past d g) (sym lost) (omega arith);
}

-- a packet that is not newer than what is kept
pub quiet_old : (past : List Event) (n : ℕ) (p : Packet) → is_lost past n ≡ false → slice_get (packets past) n ≡ Some p →
    p.revision ≤ kept past p.device p.group → IsQuiet past (Delivery n)
quiet_old past n p here at old = record {
  sent = refl;
  lost = λ m. refl;
  reported = refl;
  heard = refl;
  arrived = λ d g. subst (λ (l : List Packet). highest d g l ≤ kept past d g) (sym (arrived-here past n p here at)) (by d g (is_to d g p) refl);
}
  where
    by : (d : ℕ) (g : List ℕ) (b : Bool) → is_to d g p ≡ b → highest d g (p ∷ []) ≤ kept past d g
    by d g true to =
        let level : p.revision ≤ kept past d g = subst (λ (x : ℕ). p.revision ≤ kept past x g) (to_device d g p to)
        (subst (λ (x : List ℕ). p.revision ≤ kept past p.device x) (to_group d g p to) old) in
        let one = highest-head d g p [] to in
        omega (arith, one)
    by d g false to = let one = highest-other d g p [] to in omega (arith, one)

-- ---- a packet is sent

pub sending_stands : (fleet : FleetState) (past : List Event) (p : Packet) → StandsFor fleet past
    → StandsFor (record fleet { sent = fleet.sent ++ record { packet = p; is_lost = false } ∷ [] }) (past ++ Sending p ∷ [])
sending_stands fleet past p stands =
    let e = Sending p in
    let s : Sent = record { packet = p; is_lost = false } in
    record {
      sent = map-append (λ (s : Sent). s.packet) fleet.sent (s ∷ []) ∙ ap (λ (l : List Packet). l ++ p ∷ []) stands.sent ∙ sym (along-step sent_by past e);
      lost = λ n t at. by n t (get-push fleet.sent s t n at);
      unsent = λ n end. lost-same past e n refl ∙ stands.unsent n (shorter n end);
      reporters = stands.reporters ∙ ap (λ (l : List Report). map (λ r. r.device) l) (sym (along-same reported_by past e refl));
      keeps = λ d k device g at after. stands.keeps d k device g at after ∙ sym (kept-same past e d g (omega arith));
      reported = λ n r device g at there. stands.reported n r device g
          (subst (λ (l : List Report). slice_get l n ≡ Some r) (along-same reported_by past e refl) at) there;
      knows = λ d device g at. stands.knows d device g at ∙ sym (known-same past e d g refl);
      hears = stands.hears;
    }
  where
    shorter : (n : ℕ) → length (fleet.sent ++ record { packet = p; is_lost = false } ∷ []) ≤ n → length fleet.sent ≤ n
    shorter n end = let more = length_push fleet.sent (record { packet = p; is_lost = false }) in omega (arith, more)

    by : (n : ℕ) (t : Sent) → (slice_get fleet.sent n ≡ Some t) ⊎ ((n ≡ length fleet.sent) × (t ≡ record { packet = p; is_lost = false })) →
        t.is_lost ≡ is_lost (past ++ Sending p ∷ []) n
    by n t (inl old) = stands.lost n t old ∙ sym (lost-same past (Sending p) n refl)
    by n t (inr (end, is)) = ap (λ (x : Sent). x.is_lost) is ∙ sym (lost-same past (Sending p) n refl ∙ stands.unsent n (omega (arith, end)))

-- ---- a packet is lost

same_number : (n : ℕ) → (n == n) ≡ true
same_number n = grind arith

other_number : (m n : ℕ) → (m ≡ n → ⊥) → (m == n) ≡ false
other_number m n away = by (m == n) refl
  where
    by : (b : Bool) → (m == n) ≡ b → b ≡ false
    by true is = absurd (away (grind (arith, is)))
    by false is = refl

or-true : (b : Bool) → (b || true) ≡ true
or-true true = refl
or-true false = refl

pub loss_stands : (fleet : FleetState) (past : List Event) (n : ℕ) (s : Sent) → slice_get fleet.sent n ≡ Some s → n < length fleet.sent → StandsFor fleet past
    → StandsFor (record fleet { sent = slice_set fleet.sent n (record s { is_lost = true }) }) (past ++ Loss n ∷ [])
loss_stands fleet past n s here within stands =
    let e = Loss n in
    record {
      sent = map-set (λ (s : Sent). s.packet) fleet.sent n (record s { is_lost = true }) s here refl ∙ stands.sent ∙ sym (along-same sent_by past e refl);
      lost = λ m t at. by m t (get-set fleet.sent n (record s { is_lost = true }) t m at);
      unsent = λ m end. away m (length_kept m end) ∙ stands.unsent m (length_kept m end);
      reporters = stands.reporters ∙ ap (λ (l : List Report). map (λ r. r.device) l) (sym (along-same reported_by past e refl));
      keeps = λ d k device g at after. stands.keeps d k device g at after ∙ sym (kept-same past e d g (omega arith));
      reported = λ n r device g at there. stands.reported n r device g
          (subst (λ (l : List Report). slice_get l n ≡ Some r) (along-same reported_by past e refl) at) there;
      knows = λ d device g at. stands.knows d device g at ∙ sym (known-same past e d g refl);
      hears = stands.hears;
    }
  where
    length_kept : (m : ℕ) → length (slice_set fleet.sent n (record s { is_lost = true })) ≤ m → length fleet.sent ≤ m
    length_kept m end = let same = length-set fleet.sent n (record s { is_lost = true }) in omega (arith, same)

    away : (m : ℕ) → length fleet.sent ≤ m → is_lost (past ++ Loss n ∷ []) m ≡ is_lost past m
    away m end = lost-same past (Loss n) m (other_number m n (λ is. absurd (omega (arith, is))))

    by : (m : ℕ) (t : Sent) → ((m ≡ n) × (t ≡ record s { is_lost = true })) ⊎ ((m ≡ n → ⊥) × (slice_get fleet.sent m ≡ Some t)) →
        t.is_lost ≡ is_lost (past ++ Loss n ∷ []) m
    by m t (inl (at, is)) =
        ap (λ (x : Sent). x.is_lost) is
        ∙ sym (lost-step past (Loss n) m ∙ ap (λ (b : Bool). is_lost past m || b) (ap (λ (k : ℕ). m == k) (sym at) ∙ same_number m) ∙ or-true (is_lost past m))
    by m t (inr (other, old)) = stands.lost m t old ∙ sym (lost-same past (Loss n) m (other_number m n other))

-- ---- a report is sent

pub reporting_stands : (fleet : FleetState) (past : List Event) (d : ℕ) → StandsFor fleet past
    → StandsFor (record fleet { reports = fleet.reports ++ d ∷ [] }) (past ++ Reporting d ∷ [])
reporting_stands fleet past d stands =
    let e = Reporting d in
    let r : Report = record { device = d; past = past } in
    record {
      sent = stands.sent ∙ sym (along-same sent_by past e refl);
      lost = λ n s at. stands.lost n s at ∙ sym (lost-same past e n refl);
      unsent = λ n end. lost-same past e n refl ∙ stands.unsent n end;
      reporters = ap (λ (l : List ℕ). l ++ d ∷ []) stands.reporters ∙ sym
          (ap (λ (l : List Report). map (λ r. r.device) l) (along-step reported_by past e) ∙ map-append (λ (r : Report). r.device) (reports past) (r ∷ []));
      keeps = λ c k device g at after. stands.keeps c k device g at (omega (arith, length_push fleet.reports d)) ∙ sym (kept-same past e c g (omega arith));
      reported = λ n q device g at there. by n q device g (get-push (reports past) r q n
          (subst (λ (l : List Report). slice_get l n ≡ Some q) (along-step reported_by past e) at)) there;
      knows = λ c device g at. stands.knows c device g at ∙ sym (known-same past e c g refl);
      hears = λ c device at. let before = stands.hears c device at in omega (arith, length_push fleet.reports d);
    }
  where
    many : length fleet.reports ≡ length (reports past)
    many = ap length stands.reporters ∙ length-map (reports past) (λ (r : Report). r.device)

    by : (n : ℕ) (q : Report) (device : Keeping) (g : List ℕ) → (slice_get (reports past) n ≡ Some q) ⊎
        ((n ≡ length (reports past)) × (q ≡ record { device = d; past = past }))
        → slice_get fleet.devices q.device ≡ Some device → level (n + 1) (takings_of device g) ≡ kept q.past q.device g
    by n q device g (inl old) there = stands.reported n q device g old there
    by n q device g (inr (end, is)) there =
        stands.keeps q.device (n + 1) device g there (omega (arith, end, many)) ∙ ap (λ (x : List Event). kept x q.device g)
        (sym (ap (λ (x : Report). x.past) is))

-- ---- a packet is taken

same_bytes : (x : List ℕ) → bytes_eq x x ≡ true
same_bytes x = (bytes_eq-Decides x x).1 refl

-- a packet whose device and group are these
is_to_them : (d : ℕ) (g : List ℕ) (p : Packet) → d ≡ p.device → bytes_eq p.group g ≡ true → is_to d g p ≡ true
is_to_them d g p at of = ap (λ (x : ℕ). (p.device == x) && bytes_eq p.group g) at ∙ ap (λ (b : Bool). b && bytes_eq p.group g) (same_number p.device) ∙ of

not_to : (d : ℕ) (g : List ℕ) (p : Packet) → bytes_eq p.group g ≡ false → is_to d g p ≡ false
not_to d g p of = by (p.device == d)
  where
    by : (b : Bool) → (b && bytes_eq p.group g) ≡ false
    by true = of
    by false = refl

not_there : (d : ℕ) (g : List ℕ) (p : Packet) → (d ≡ p.device → ⊥) → is_to d g p ≡ false
not_there d g p away = ap (λ (b : Bool). b && bytes_eq p.group g) (other_number p.device d (λ is. away (sym is)))

arrived_nowhere : (past : List Event) (n : ℕ) (p : Packet) (d : ℕ) (g : List ℕ) → is_lost past n ≡ false → slice_get (packets past) n ≡ Some p →
    is_to d g p ≡ false
    → kept (past ++ Delivery n ∷ []) d g ≡ kept past d g
arrived_nowhere past n p d g here at to =
    let none = ap (highest d g) (arrived-here past n p here at) ∙ highest-other d g p [] to in
    kept-same past (Delivery n) d g (omega (arith, none))

pub record IsTaking (fleet : FleetState) (past : List Event) (n : ℕ) (p : Packet) (device new : Keeping) : Type 0 where
  pub here : is_lost past n ≡ false
  pub at : slice_get (packets past) n ≡ Some p
  pub there : slice_get fleet.devices p.device ≡ Some device
  pub takes : HasTakenOne device p.group (record { reports = length fleet.reports; revision = p.revision }) new

pub taking_stands : (fleet : FleetState) (past : List Event) (n : ℕ) (p : Packet) (device new : Keeping) → IsTaking fleet past n p device new →
    StandsFor fleet past
    → StandsFor (record fleet { devices = slice_set fleet.devices p.device new }) (past ++ Delivery n ∷ [])
taking_stands fleet past n p device new is stands =
    let e = Delivery n in
    record {
      sent = stands.sent ∙ sym (along-same sent_by past e refl);
      lost = λ m s at. stands.lost m s at ∙ sym (lost-same past e m refl);
      unsent = λ m end. lost-same past e m refl ∙ stands.unsent m end;
      reporters = stands.reporters ∙ ap (λ (l : List Report). map (λ r. r.device) l) (sym (along-same reported_by past e refl));
      keeps = λ d k c g at after. keeps d k c g after (get-set fleet.devices p.device new c d at);
      reported = λ m r c g at there. told_of m r c g (subst (λ (l : List Report). slice_get l m ≡ Some r) (along-same reported_by past e refl) at)
          (get-set fleet.devices p.device new c r.device there);
      knows = λ d c g at. knows d c g (get-set fleet.devices p.device new c d at) ∙ sym (known-same past e d g refl);
      hears = λ d c at. hears d c (get-set fleet.devices p.device new c d at);
    }
  where
    -- what was taken earlier is as it was
    earlier : (k : ℕ) (g : List ℕ) → k ≤ length fleet.reports → level k (takings_of new g) ≡ level k (takings_of device g)
    earlier k g before = ap (level k) (is.takes.taken g) ∙ by (bytes_eq p.group g)
      where
        by : (b : Bool) → level k (if b then takings_of device g ++ record { reports = length fleet.reports; revision = p.revision } ∷ [] else takings_of
            device g) ≡ level k (takings_of device g)
        by true = level-later k (takings_of device g) (record { reports = length fleet.reports; revision = p.revision }) before
        by false = refl

    keeps : (d k : ℕ) (c : Keeping) (g : List ℕ) → length fleet.reports < k → ((d ≡ p.device) × (c ≡ new)) ⊎
        ((d ≡ p.device → ⊥) × (slice_get fleet.devices d ≡ Some c))
        → level k (takings_of c g) ≡ kept (past ++ Delivery n ∷ []) d g
    keeps d k c g after (inl (at, same)) = ap (λ (x : Keeping). level k (takings_of x g)) same ∙ ap (level k) (is.takes.taken g) ∙ by (bytes_eq p.group g) refl
      where
        before : level k (takings_of device g) ≡ kept past d g
        before = stands.keeps d k device g (subst (λ (x : ℕ). slice_get fleet.devices x ≡ Some device) (sym at) is.there) after

        by : (b : Bool) → bytes_eq p.group g ≡ b
            → level k (if b then takings_of device g ++ record { reports = length fleet.reports; revision = p.revision } ∷ [] else takings_of device g) ≡ kept
            (past ++ Delivery n ∷ []) d g
        by true of =
            let more = level-now k (takings_of device g) (record { reports = length fleet.reports; revision = p.revision }) after in
            let one = highest-head d g p [] (is_to_them d g p at of) in
            let step = kept-step past (Delivery n) d g ∙ ap (λ (l : List Packet). max (kept past d g) (highest d g l)) (arrived-here past n p is.here is.at) in
            omega (arith, more, one, step, before)
        by false of = before ∙ sym (arrived_nowhere past n p d g is.here is.at (not_to d g p of))
    keeps d k c g after (inr (away, old)) = stands.keeps d k c g old after ∙ sym (arrived_nowhere past n p d g is.here is.at (not_there d g p away))

    many : length fleet.reports ≡ length (reports past)
    many = ap length stands.reporters ∙ length-map (reports past) (λ (r : Report). r.device)

    told_of : (m : ℕ) (r : Report) (c : Keeping) (g : List ℕ) → slice_get (reports past) m ≡ Some r → ((r.device ≡ p.device) × (c ≡ new)) ⊎
        ((r.device ≡ p.device → ⊥) × (slice_get fleet.devices r.device ≡ Some c))
        → level (m + 1) (takings_of c g) ≡ kept r.past r.device g
    told_of m r c g report (inl (at, same)) =
        ap (λ (x : Keeping). level (m + 1) (takings_of x g)) same ∙ earlier (m + 1) g (let low = slice_get_within (reports past) m r report in
        omega (arith, low, many))
        ∙ stands.reported m r device g report (subst (λ (x : ℕ). slice_get fleet.devices x ≡ Some device) (sym at) is.there)
    told_of m r c g report (inr (away, old)) = stands.reported m r c g report old

    knows : (d : ℕ) (c : Keeping) (g : List ℕ) → ((d ≡ p.device) × (c ≡ new)) ⊎ ((d ≡ p.device → ⊥) × (slice_get fleet.devices d ≡ Some c)) →
        level c.heard (takings_of c g) ≡ known past d g
    knows d c g (inl (at, same)) =
        ap (λ (x : Keeping). level x.heard (takings_of x g)) same ∙ ap (λ (k : ℕ). level k (takings_of new g)) is.takes.heard
        ∙ earlier device.heard g (stands.hears p.device device is.there)
        ∙ stands.knows d device g (subst (λ (x : ℕ). slice_get fleet.devices x ≡ Some device) (sym at) is.there)
    knows d c g (inr (away, old)) = stands.knows d c g old

    hears : (d : ℕ) (c : Keeping) → ((d ≡ p.device) × (c ≡ new)) ⊎ ((d ≡ p.device → ⊥) × (slice_get fleet.devices d ≡ Some c)) → c.heard ≤ length fleet.reports
    hears d c (inl (at, same)) =
        let now = ap (λ (x : Keeping). x.heard) same ∙ is.takes.heard in
        let before = stands.hears p.device device is.there in
        omega (arith, now, before)
    hears d c (inr (away, old)) = stands.hears d c old

-- ---- a report is heard

pub hearing_stands : (fleet : FleetState) (past : List Event) (n : ℕ) (r : Report) (device : Keeping) → slice_get (reports past) n ≡ Some r →
    slice_get fleet.devices r.device ≡ Some device
    → StandsFor fleet past
    → StandsFor (record fleet { devices = slice_set fleet.devices r.device (record device { heard = max device.heard (n + 1) }) }) (past ++ Hearing n ∷ [])
hearing_stands fleet past n r device report there stands =
    let e = Hearing n in
    let new : Keeping = record device { heard = max device.heard (n + 1) } in
    record {
      sent = stands.sent ∙ sym (along-same sent_by past e refl);
      lost = λ m s at. stands.lost m s at ∙ sym (lost-same past e m refl);
      unsent = λ m end. lost-same past e m refl ∙ stands.unsent m end;
      reporters = stands.reporters ∙ ap (λ (l : List Report). map (λ r. r.device) l) (sym (along-same reported_by past e refl));
      keeps = λ d k c g at after. keeps d k c g after (get-set fleet.devices r.device new c d at) ∙ sym (kept-same past e d g (omega arith));
      reported = λ m q c g at place. told_of m q c g (subst (λ (l : List Report). slice_get l m ≡ Some q) (along-same reported_by past e refl) at)
          (get-set fleet.devices r.device new c q.device place);
      knows = λ d c g at. knows d c g (get-set fleet.devices r.device new c d at);
      hears = λ d c at. hears d c (get-set fleet.devices r.device new c d at);
    }
  where
    many : length fleet.reports ≡ length (reports past)
    many = ap length stands.reporters ∙ length-map (reports past) (λ (q : Report). q.device)

    keeps : (d k : ℕ) (c : Keeping) (g : List ℕ) → length fleet.reports < k → ((d ≡ r.device) × (c ≡ record device { heard = max device.heard (n + 1) })) ⊎
        ((d ≡ r.device → ⊥) × (slice_get fleet.devices d ≡ Some c))
        → level k (takings_of c g) ≡ kept past d g
    keeps d k c g after (inl (at, same)) = ap (λ (x : Keeping). level k (takings_of x g)) same ∙ stands.keeps d k device g
        (subst (λ (x : ℕ). slice_get fleet.devices x ≡ Some device) (sym at) there) after
    keeps d k c g after (inr (away, old)) = stands.keeps d k c g old after

    told_of : (m : ℕ) (q : Report) (c : Keeping) (g : List ℕ) → slice_get (reports past) m ≡ Some q →
        ((q.device ≡ r.device) × (c ≡ record device { heard = max device.heard (n + 1) })) ⊎
        ((q.device ≡ r.device → ⊥) × (slice_get fleet.devices q.device ≡ Some c))
        → level (m + 1) (takings_of c g) ≡ kept q.past q.device g
    told_of m q c g place (inl (at, same)) = ap (λ (x : Keeping). level (m + 1) (takings_of x g)) same ∙ stands.reported m q device g place
        (subst (λ (x : ℕ). slice_get fleet.devices x ≡ Some device) (sym at) there)
    told_of m q c g place (inr (away, old)) = stands.reported m q c g place old

    one : (d : ℕ) (g : List ℕ) → known (past ++ Hearing n ∷ []) d g ≡ max (known past d g) (told d g (r ∷ []))
    one d g = known-step past (Hearing n) d g ∙ ap (λ (o : Option Report). max (known past d g) (told d g (option_to_list o))) report

    knows : (d : ℕ) (c : Keeping) (g : List ℕ) → ((d ≡ r.device) × (c ≡ record device { heard = max device.heard (n + 1) })) ⊎
        ((d ≡ r.device → ⊥) × (slice_get fleet.devices d ≡ Some c))
        → level c.heard (takings_of c g) ≡ known (past ++ Hearing n ∷ []) d g
    knows d c g (inl (at, same)) =
        let now = ap (λ (x : Keeping). level x.heard (takings_of x g)) same ∙ level-max device.heard (n + 1) (takings_of device g) in
        let before = stands.knows d device g (subst (λ (x : ℕ). slice_get fleet.devices x ≡ Some device) (sym at) there) in
        let report_says = stands.reported n r device g report there in
        let here : told d g (r ∷ []) ≡ max (kept r.past d g) 0 = ap (λ (b : Bool). if b then max (kept r.past d g) 0 else 0)
        (ap (λ (x : ℕ). r.device == x) at ∙ same_number r.device) in
        let moved : kept r.past d g ≡ kept r.past r.device g = ap (λ (x : ℕ). kept r.past x g) at in
        let all = one d g in
        omega (arith, now, before, report_says, here, moved, all)
    knows d c g (inr (away, old)) =
        let before = stands.knows d c g old in
        let here : told d g (r ∷ []) ≡ 0 = ap (λ (b : Bool). if b then max (kept r.past d g) 0 else 0) (other_number r.device d (λ is. away (sym is))) in
        let all = one d g in
        omega (arith, before, here, all)

    hears : (d : ℕ) (c : Keeping) → ((d ≡ r.device) × (c ≡ record device { heard = max device.heard (n + 1) })) ⊎
        ((d ≡ r.device → ⊥) × (slice_get fleet.devices d ≡ Some c)) → c.heard ≤ length fleet.reports
    hears d c (inl (at, same)) =
        let now = ap (λ (x : Keeping). x.heard) same in
        let before = stands.hears r.device device there in
        let low = slice_get_within (reports past) n r report in
        omega (arith, now, before, low, many)
    hears d c (inr (away, old)) = stands.hears d c old
