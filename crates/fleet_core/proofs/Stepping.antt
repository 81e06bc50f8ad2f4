-- Each step of a fleet, over the events for which it stands.
use Rattle.std.proofs.Common.{◌≡◌, ℕ, zero, suc, ◌+◌, ◌<◌, ◌≤◌, Bool, true, false, List, [], ◌∷◌, ◌++◌, Some, None, Ok, length, refl, sym, ap, subst, ◌∙◌}
use Rattle.std.proofs.Common.{arith, inl, inr, ltb-true}
use Rattle.std.specs.Prelude.{slice_get, slice_set, slice_index_or, option_map, unwrap_or, map, max, nat_lt, ◌⊎◌, if◌then◌else◌}
use Rattle.std.specs.Bool.{MatchBool}
use Rattle.std.specs.Str.{bytes_eq}
use Rattle.std.specs.Map.{lookup}
use Rattle.std.proofs.lemmas.List.{length-map, length_push, length-set}
use Rattle.std.proofs.lemmas.Option.{slice_get-map, slice_get_within, slice_get_read}
use Rattle.fleet_core.specs.declared.packet.Packet.{Packet}
use Rattle.fleet_core.specs.declared.packet.Sent.{Sent}
use Rattle.fleet_core.specs.declared.history.Taking.{Taking}
use Rattle.fleet_core.specs.declared.happening.Happening.TheVariants as happening
use Rattle.fleet_core.specs.declared.happening.Reply.{Reply}
use Rattle.fleet_core.specs.declared.happening.Reply.TheVariants as reply
use Rattle.fleet_core.specs.Events.{Event}
use Rattle.fleet_core.specs.Events.Event.{Sending, Delivery, Loss, Restarting, Reporting, Hearing}
use Rattle.fleet_core.specs.Meaning.{packets, is_lost, kept, known, Report, reports}
use Rattle.fleet_core.specs.Takings.{level, AreBy}
use Rattle.fleet_core.specs.Keeping.{Keeping, takings_of, HasTakenOne, IsBy, level_before, IsOffered}
use Rattle.fleet_core.specs.Fleets.{FleetState, AreFresh, IsSound, StandsFor, Stepped}
use Rattle.fleet_core.specs.Replies.{IsPacketOf, IsListing, verdict, most}
use Rattle.fleet_core.proofs.Standing.{sending_stands, quiet_stands, quiet_gone, quiet_old, quiet_restarting, loss_stands, reporting_stands, taking_stands}
use Rattle.fleet_core.proofs.Standing.{hearing_stands, get-push, get-set}
use Rattle.fleet_core.proofs.Along.{all-weaken, all-append}

-- ---- what a fleet has of its events

many_packets : (v : FleetState) (past : List Event) → StandsFor v past → length v.sent ≡ length (packets past)
many_packets v past stands = sym (length-map v.sent (λ (s : Sent). s.packet)) ∙ ap length stands.sent

many_reports : (v : FleetState) (past : List Event) → StandsFor v past → length v.reports ≡ length (reports past)
many_reports v past stands = ap length stands.reporters ∙ length-map (reports past) (λ (r : Report). r.device)

sent_below : (v : FleetState) (past : List Event) (n : ℕ) (s : Sent) → StandsFor v past → slice_get v.sent n ≡ Some s → n < length (packets past)
sent_below v past n s stands at = let low = slice_get_within v.sent n s at in let many = many_packets v past stands in omega (arith, low, many)

packet_at : (v : FleetState) (past : List Event) (n : ℕ) (s : Sent) → StandsFor v past → slice_get v.sent n ≡ Some s →
    slice_get (packets past) n ≡ Some s.packet
packet_at v past n s stands at =
    subst (λ (l : List Packet). slice_get l n ≡ Some s.packet) stands.sent
    (slice_get-map (λ (s : Sent). s.packet) v.sent n ∙ ap (option_map (λ (s : Sent). s.packet)) at)

got-map : {X Y : Type 0} (f : X → Y) (xs : List X) (n : ℕ) (y : Y) → slice_get (map f xs) n ≡ Some y → (x : X) × (slice_get xs n ≡ Some x) × (f x ≡ y)
got-map f [] n y at = absurd cc
got-map f (x ∷ xs) zero y at = (x, refl, cc)
got-map f (x ∷ xs) (suc n) y at = got-map f xs n y at

set-same : {X : Type 0} (xs : List X) (i : ℕ) (x : X) → slice_get xs i ≡ Some x → slice_set xs i x ≡ xs
set-same [] i x at = refl
set-same (y ∷ xs) zero x at = let is : y ≡ x = cc in ap (λ z. z ∷ xs) (sym is)
set-same (y ∷ xs) (suc i) x at = ap (λ l. y ∷ l) (set-same xs i x at)

-- ---- the steps

pub send_steps : (v fleet : FleetState) (is : v ≡ fleet) (d n : ℕ) (bytes : List ℕ) (p : Packet) (items : List Sent) → d < length v.devices →
    length v.sent < most → n ≡ length v.sent
    → IsPacketOf d bytes p → items ≡ v.sent ++ record { packet = p; is_lost = false } ∷ []
    → (past : List Event) → StandsFor fleet past → Stepped fleet past (happening.Send d bytes) (Ok (reply.Sent n)) (record v { sent = items })
send_steps v fleet is d n bytes p items there few number packet more =
    subst (λ (f : FleetState). (past : List Event) → StandsFor f past → Stepped f past (happening.Send d bytes) (Ok (reply.Sent n)) (record v { sent = items }))
    is (λ past stands.
    let many = many_packets v past stands in (
      Sending p,
      (there, omega (arith, few, many), (p, packet, refl)),
      ap (λ (k : ℕ). reply.Sent k) (number ∙ many),
      subst (λ (l : List Sent). StandsFor (record v { sent = l }) (past ++ Sending p ∷ [])) (sym more) (sending_stands v past p stands),
    ))

pub gone_steps : (v fleet : FleetState) (is : v ≡ fleet) (n : ℕ) (s : Sent) → slice_get v.sent n ≡ Some s → s.is_lost ≡ true
    → (past : List Event) → StandsFor fleet past → Stepped fleet past (happening.Deliver n) (Ok (reply.Gone n)) v
gone_steps v fleet is n s at lost =
    subst (λ (f : FleetState). (past : List Event) → StandsFor f past → Stepped f past (happening.Deliver n) (Ok (reply.Gone n)) v) is (λ past stands.
    let was : is_lost past n ≡ true = sym (stands.lost n s at) ∙ lost in (
      Delivery n,
      (sent_below v past n s stands at, refl),
      subst (λ (b : Bool). MatchBool b (reply.Gone n ≡ reply.Gone n) ((packet : Packet) × (slice_get (packets past) n ≡ Some packet) ×
          (reply.Gone n ≡ verdict packet (kept past packet.device packet.group)))) (sym was) refl,
      quiet_stands v past (Delivery n) (quiet_gone past n was) stands,
    ))

pub offered_steps : (v fleet : FleetState) (is : v ≡ fleet) (n : ℕ) (s : Sent) (device new : Keeping) (r : Reply) (devices : List Keeping)
    → slice_get v.sent n ≡ Some s → s.is_lost ≡ false → slice_get v.devices s.packet.device ≡ Some device →
    r ≡ verdict s.packet (level_before device s.packet (length v.reports))
    → IsOffered device s.packet (length v.reports) new → devices ≡ slice_set v.devices s.packet.device new
    → (past : List Event) → StandsFor fleet past → Stepped fleet past (happening.Deliver n) (Ok r) (record v { devices = devices })
offered_steps v fleet is n s device new r devices at here there says offered written =
    subst (λ (f : FleetState). (past : List Event) → StandsFor f past → Stepped f past (happening.Deliver n) (Ok r) (record v { devices = devices })) is
    (λ past stands.
    let was : is_lost past n ≡ false = sym (stands.lost n s at) ∙ here in
    let packet = packet_at v past n s stands at in
    let level_is : level_before device s.packet (length v.reports) ≡ kept past s.packet.device s.packet.group =
    stands.keeps s.packet.device (length v.reports + 1) device s.packet.group there (omega arith) in (
      Delivery n,
      (sent_below v past n s stands at, refl),
      subst (λ (b : Bool). MatchBool b (r ≡ reply.Gone n) ((packet : Packet) × (slice_get (packets past) n ≡ Some packet) ×
          (r ≡ verdict packet (kept past packet.device packet.group)))) (sym was)
          (s.packet, packet, says ∙ ap (verdict s.packet) level_is),
      subst (λ (l : List Keeping). StandsFor (record v { devices = l }) (past ++ Delivery n ∷ [])) (sym written)
          (by past stands was packet level_is (nat_lt (level_before device s.packet (length v.reports)) s.packet.revision) refl offered),
    ))
  where
    by : (past : List Event) → StandsFor v past → is_lost past n ≡ false → slice_get (packets past) n ≡ Some s.packet
        → level_before device s.packet (length v.reports) ≡ kept past s.packet.device s.packet.group
        → (b : Bool) → nat_lt (level_before device s.packet (length v.reports)) s.packet.revision ≡ b
        → MatchBool b (HasTakenOne device s.packet.group (record { reports = length v.reports; revision = s.packet.revision }) new) (new ≡ device)
        → StandsFor (record v { devices = slice_set v.devices s.packet.device new }) (past ++ Delivery n ∷ [])
    by past stands was packet level_is true newer takes = taking_stands v past n s.packet device new
        (record { here = was; at = packet; there = there; takes = takes }) stands
    by past stands was packet level_is false older same =
        let old : s.packet.revision ≤ kept past s.packet.device s.packet.group = grind (arith, older, level_is) in
        subst (λ (l : List Keeping). StandsFor (record v { devices = l }) (past ++ Delivery n ∷ []))
        (sym (ap (λ (k : Keeping). slice_set v.devices s.packet.device k) same ∙ set-same v.devices s.packet.device device there))
        (quiet_stands v past (Delivery n) (quiet_old past n s.packet was packet old) stands)

pub lost_steps : (v fleet : FleetState) (is : v ≡ fleet) (n : ℕ) (s : Sent) (items : List Sent) → slice_get v.sent n ≡ Some s →
    items ≡ slice_set v.sent n (record s { is_lost = true })
    → (past : List Event) → StandsFor fleet past → Stepped fleet past (happening.Lose n) (Ok (reply.Lost n)) (record v { sent = items })
lost_steps v fleet is n s items at written =
    subst (λ (f : FleetState). (past : List Event) → StandsFor f past → Stepped f past (happening.Lose n) (Ok (reply.Lost n)) (record v { sent = items })) is
    (λ past stands. (
      Loss n,
      (sent_below v past n s stands at, refl),
      refl,
      subst (λ (l : List Sent). StandsFor (record v { sent = l }) (past ++ Loss n ∷ [])) (sym written)
          (loss_stands v past n s at (slice_get_within v.sent n s at) stands),
    ))

pub restarted_steps : (v fleet : FleetState) (is : v ≡ fleet) (d : ℕ) → d < length v.devices
    → (past : List Event) → StandsFor fleet past → Stepped fleet past (happening.Restart d) (Ok (reply.Restarted d)) v
restarted_steps v fleet is d there =
    subst (λ (f : FleetState). (past : List Event) → StandsFor f past → Stepped f past (happening.Restart d) (Ok (reply.Restarted d)) v) is (λ past stands.
    (Restarting d, (there, refl), refl, quiet_stands v past (Restarting d) (quiet_restarting past d) stands))

pub report_steps : (v fleet : FleetState) (is : v ≡ fleet) (d n : ℕ) (items : List ℕ) → d < length v.devices → length v.reports < most →
    n ≡ length v.reports → items ≡ v.reports ++ d ∷ []
    → (past : List Event) → StandsFor fleet past → Stepped fleet past (happening.Report d) (Ok (reply.Reported n)) (record v { reports = items })
report_steps v fleet is d n items there few number more =
    subst (λ (f : FleetState). (past : List Event) → StandsFor f past → Stepped f past (happening.Report d) (Ok (reply.Reported n))
    (record v { reports = items })) is (λ past stands.
    let many = many_reports v past stands in (
      Reporting d,
      (there, omega (arith, few, many), refl),
      ap (λ (k : ℕ). reply.Reported k) (number ∙ many),
      subst (λ (l : List ℕ). StandsFor (record v { reports = l }) (past ++ Reporting d ∷ [])) (sym more) (reporting_stands v past d stands),
    ))

listing_same : (f h : List ℕ → ℕ) (list : List (List ℕ × ℕ)) → ((g : List ℕ) → f g ≡ h g) → IsListing f list → IsListing h list
listing_same f h list same is = record {
  ordered = is.ordered;
  levels = λ g. is.levels g ∙ ap (λ (k : ℕ). if nat_lt 0 k then Some k else None) (same g);
}

get-set-same : {X : Type 0} (xs : List X) (i : ℕ) (x y : X) → slice_get xs i ≡ Some x → slice_get (slice_set xs i y) i ≡ Some y
get-set-same [] i x y at = absurd cc
get-set-same (z ∷ xs) zero x y at = refl
get-set-same (z ∷ xs) (suc i) x y at = get-set-same xs i x y at

pub hear_steps : (v fleet : FleetState) (is : v ≡ fleet) (n d : ℕ) (device new : Keeping) (list : List (List ℕ × ℕ)) (devices : List Keeping)
    → slice_get v.reports n ≡ Some d → slice_get v.devices d ≡ Some device → IsListing (λ g. level (max device.heard (n + 1)) (takings_of device g)) list
    → new ≡ record device { heard = max device.heard (n + 1) } → devices ≡ slice_set v.devices d new
    → (past : List Event) → StandsFor fleet past → Stepped fleet past (happening.Hear n) (Ok (reply.Known d list)) (record v { devices = devices })
hear_steps v fleet is n d device new list devices at there listing heard written =
    subst (λ (f : FleetState). (past : List Event) → StandsFor f past → Stepped f past (happening.Hear n) (Ok (reply.Known d list))
    (record v { devices = devices })) is (λ past stands.
    by past stands (got-map (λ (r : Report). r.device) (reports past) n d (subst (λ (l : List ℕ). slice_get l n ≡ Some d) stands.reporters at)))
  where
    by : (past : List Event) → StandsFor v past → (r : Report) × (slice_get (reports past) n ≡ Some r) × (r.device ≡ d) →
        Stepped v past (happening.Hear n) (Ok (reply.Known d list)) (record v { devices = devices })
    by past stands (r, report, whose) =
        let low = slice_get_within (reports past) n r report in
        let place : slice_get v.devices r.device ≡ Some device = subst (λ (x : ℕ). slice_get v.devices x ≡ Some device) (sym whose) there in
        let after = hearing_stands v past n r device report place stands in
        let there_now = get-set-same v.devices r.device device (record device { heard = max device.heard (n + 1) }) place in (
          Hearing n,
          (low, refl),
          (
            r,
            list,
            report,
            ap (λ (x : ℕ). reply.Known x list) (sym whose),
            listing_same (λ g. level (max device.heard (n + 1)) (takings_of device g)) (known (past ++ Hearing n ∷ []) r.device) list
                (λ g. after.knows r.device (record device { heard = max device.heard (n + 1) }) g there_now) listing,
          ),
          subst (λ (l : List Keeping). StandsFor (record v { devices = l }) (past ++ Hearing n ∷ []))
              (sym (written ∙ ap (λ (k : Keeping). slice_set v.devices d k) heard ∙ ap
              (λ (x : ℕ). slice_set v.devices x (record device { heard = max device.heard (n + 1) })) (sym whose))) after,
        )

-- ---- what a fleet keeps of itself

pub item_at : {X : Type 0} (xs ys : List X) (i : ℕ) (x : X) → xs ≡ ys → true ≡ nat_lt i (length xs) → x ≡ slice_index_or xs i x → slice_get ys i ≡ Some x
item_at {X} xs ys i x same within is = subst (λ (l : List X). slice_get l i ≡ Some x) same
    (slice_get_read xs (length xs) i x refl (ltb-true i (length xs) (sym within)) is)

pub report_sound : (v : FleetState) (d : ℕ) (items : List ℕ) → IsSound v → d < length v.devices → length v.reports < most → items ≡ v.reports ++ d ∷ [] →
    IsSound (record v { reports = items })
report_sound v d items sound there few more =
    subst (λ (l : List ℕ). IsSound (record v { reports = l })) (sym more) (record {
      packets = sound.packets;
      reports = λ n c at. by n c (get-push v.reports d c n at);
      few_packets = sound.few_packets;
      few_reports = let many = length_push v.reports d in omega (arith, many, few);
      by = λ c device at g. let many = length_push v.reports d in
          all-weaken (λ (t : Taking). t.reports ≤ length v.reports) (λ (t : Taking). t.reports ≤ length (v.reports ++ d ∷ []))
          (λ t low. omega (arith, low, many)) (takings_of device g) (sound.by c device at g);
    })
  where
    by : (n c : ℕ) → (slice_get v.reports n ≡ Some c) ⊎ ((n ≡ length v.reports) × (c ≡ d)) → c < length v.devices
    by n c (inl old) = sound.reports n c old
    by n c (inr (end, is)) = omega (arith, is, there)

-- one device is another, which took nothing later than now
device_sound : (v : FleetState) (i : ℕ) (new : Keeping) → IsSound v → IsBy (length v.reports) new → IsSound (record v { devices = slice_set v.devices i new })
device_sound v i new sound by_now = record {
  packets = λ n s at. let low = sound.packets n s at in omega (arith, low, many);
  reports = λ n d at. let low = sound.reports n d at in omega (arith, low, many);
  few_packets = sound.few_packets;
  few_reports = sound.few_reports;
  by = λ d device at. by d device (get-set v.devices i new device d at);
}
  where
    many : length (slice_set v.devices i new) ≡ length v.devices
    many = length-set v.devices i new

    by : (d : ℕ) (device : Keeping) → ((d ≡ i) × (device ≡ new)) ⊎ ((d ≡ i → ⊥) × (slice_get v.devices d ≡ Some device)) → IsBy (length v.reports) device
    by d device (inl (at, is)) = subst (IsBy (length v.reports)) (sym is) by_now
    by d device (inr (away, old)) = sound.by d device old

pub offered_sound : (v : FleetState) (p : Packet) (device new : Keeping) → IsSound v → slice_get v.devices p.device ≡ Some device →
    IsOffered device p (length v.reports) new
    → IsSound (record v { devices = slice_set v.devices p.device new })
offered_sound v p device new sound there offered = device_sound v p.device new sound (by (nat_lt (level_before device p (length v.reports)) p.revision) offered)
  where
    grown : (g : List ℕ) (b : Bool) → AreBy (length v.reports) (if b then takings_of device g ++ record { reports = length v.reports; revision = p.revision }
        ∷ [] else takings_of device g)
    grown g true = all-append (λ (t : Taking). t.reports ≤ length v.reports) (takings_of device g)
        (record { reports = length v.reports; revision = p.revision } ∷ []) (sound.by p.device device there g) (omega arith, tt)
    grown g false = sound.by p.device device there g

    by : (b : Bool) → MatchBool b (HasTakenOne device p.group (record { reports = length v.reports; revision = p.revision }) new) (new ≡ device) →
        IsBy (length v.reports) new
    by true takes g = subst (AreBy (length v.reports)) (sym (takes.taken g)) (grown g (bytes_eq p.group g))
    by false same g = subst (λ (k : Keeping). AreBy (length v.reports) (takings_of k g)) (sym same) (sound.by p.device device there g)

pub heard_sound : (v : FleetState) (i k : ℕ) (device new : Keeping) → IsSound v → slice_get v.devices i ≡ Some device → new ≡ record device { heard = k } →
    IsSound (record v { devices = slice_set v.devices i new })
heard_sound v i k device new sound there is = device_sound v i new sound (λ g. subst (λ (x : Keeping). AreBy (length v.reports) (takings_of x g)) (sym is)
    (sound.by i device there g))

-- ---- a fleet in which nothing happened

pub fresh_sound : (devices : List Keeping) → AreFresh devices → IsSound (record { devices = devices; sent = []; reports = [] })
fresh_sound devices fresh = record {
  packets = λ n s at. absurd cc;
  reports = λ n d at. absurd cc;
  few_packets = omega arith;
  few_reports = omega arith;
  by = λ d device at g. subst (λ (es : List (List ℕ × List Taking)). AreBy 0 (unwrap_or (lookup (bytes_eq g) es) [])) (sym (fresh d device at).0) tt;
}

fresh_level : (devices : List Keeping) → AreFresh devices → (d k : ℕ) (device : Keeping) (g : List ℕ) → slice_get devices d ≡ Some device →
    level k (takings_of device g) ≡ 0
fresh_level devices fresh d k device g at = ap (λ (es : List (List ℕ × List Taking)). level k (unwrap_or (lookup (bytes_eq g) es) [])) (fresh d device at).0

pub fresh_stands : (devices : List Keeping) → AreFresh devices → StandsFor (record { devices = devices; sent = []; reports = [] }) []
fresh_stands devices fresh = record {
  sent = refl;
  lost = λ n s at. absurd cc;
  unsent = λ n end. refl;
  reporters = refl;
  keeps = λ d k device g at after. fresh_level devices fresh d k device g at;
  reported = λ n r device g at there. absurd cc;
  knows = λ d device g at. fresh_level devices fresh d device.heard device g at;
  hears = λ d device at. let none = (fresh d device at).1 in omega (arith, none);
}

pub fresh-push : (devices : List Keeping) (device : Keeping) → AreFresh devices → device.groups ≡ [] → device.heard ≡ 0 → AreFresh (devices ++ device ∷ [])
fresh-push devices device fresh groups heard d other at = by (get-push devices device other d at)
  where
    by : (slice_get devices d ≡ Some other) ⊎ ((d ≡ length devices) × (other ≡ device)) → (other.groups ≡ []) × (other.heard ≡ 0)
    by (inl old) = fresh d other old
    by (inr (end, is)) = (ap (λ (k : Keeping). k.groups) is ∙ groups, ap (λ (k : Keeping). k.heard) is ∙ heard)
