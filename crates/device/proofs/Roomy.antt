-- Each record takes one of those that are left.
use Rattle.std.proofs.Common.{◌≡◌, ℕ, zero, suc, ◌+◌, ◌-◌, ◌*◌, ◌<◌, ◌≤◌, Bool, true, false, cond, List, [], ◌∷◌, ◌++◌, length, take, get_or, Option, Some}
use Rattle.std.proofs.Common.{None, refl, sym, ap, subst, arith, is_some, MatchOption, length-append}
use Rattle.std.specs.Prelude.{slice_set, slice_get, filter, not, if◌then◌else◌, option_map, ◌&&◌, nat_lt}
use Rattle.std.proofs.lemmas.Bool.{ltb-false}
use Rattle.gate_log.specs.Entries.{most_file}
use Rattle.std.specs.Int.{w32, to_be_bytes}
use Rattle.std.specs.Option.{IfSome, IsSome, IsSomeAnd, option_map_or}
use Rattle.std.proofs.lemmas.List.Sums.{sum_by-set}
use Rattle.std.proofs.lemmas.Option.{slice_get_within}
use Rattle.nuc_base.specs.declared.kinds.Exit.{Exit}
use Rattle.nuc_base.specs.declared.kinds.Exit.TheVariants as exits
use Rattle.records.specs.declared.record.Origin.{Origin}
use Rattle.records.specs.Layout as layout
use Rattle.records.specs.Layout.{Spelled}
use Rattle.records.specs.Stored.{Item, Plan, Record, Genesis, Accepted, BootBegun, BootEnded, Activating, StepFailed, Failing, FailingBack, Closed}
use Rattle.device.specs.declared.staged.Stage.TheVariants as stages
use Rattle.device.specs.declared.device.Device as code
use Rattle.device.specs.declared.staged.Pending as code_pending
use Rattle.device.specs.Devices.{Device, Pending, Stage, device_view, pending_view}
use Rattle.device.specs.Limits.{room_of_plan}
use Rattle.device.specs.Lawful.{Allowed, applied, Lawful, MayAccept, MayBegin, MayEnd, MayActivate, MayCount, MayGoBack, begun, boot_ended, moved_on}
use Rattle.device.specs.Lawful.{one_ended, goes_on, activated, counted, count_failure, rolled, sent_back, failing_name, failing_place, place, backs_of}
use Rattle.device.specs.Lawful.{reach_of, goes_back}
use Rattle.device.specs.Rooms.{failures_left, boots_left, way_back, left_of, still_to_come, HasRoom, TakesRoom}
use Rattle.device.specs.Sound.{IsPlanFor, IsInStage, IsUnderWay, IsSound}
use Rattle.device.specs.Standing.{IsPayload}
use Rattle.device.proofs.Settling.{few_boots}
use Rattle.device.proofs.SoundStages.{at, active_in, count_below}

none_at : {A : Type 0} (k : ℕ) (x : A) → slice_get [] k ≡ Some x → ⊥
none_at k x h = absurd cc

filter_short : {A : Type 0} (p : A → Bool) (xs : List A) → length (filter p xs) ≤ length xs
filter_short p [] = omega arith
filter_short p (x ∷ xs) = by (p x) (filter_short p xs)
  where
    by : (b : Bool) → length (filter p xs) ≤ length xs → length (cond b (x ∷ filter p xs) (filter p xs)) ≤ length (x ∷ xs)
    by true rest = omega (arith, rest)
    by false rest = omega (arith, rest)

take_short : {A : Type 0} (k : ℕ) (xs : List A) → length (take k xs) ≤ length xs
take_short zero xs = omega arith
take_short (suc k) [] = omega arith
take_short (suc k) (x ∷ xs) = let rest = take_short k xs in omega (arith, rest)

falls_begun : (s : Stage) (q : Pending) (n : List ℕ) → MayBegin n (at s q) → left_of (begun (at s q)) + 1 ≤ left_of (at s q)
falls_begun stages.Booting q n may =
    let b = length q.plan.boots in
    let before : left_of (at stages.Booting q) ≡ 2 * (b - q.ended) + 1 + 384 + way_back q = rw (may.0, may.2) refl in
    let after : left_of (begun (at stages.Booting q)) ≡ 2 * (b - q.ended) + 0 + 384 + way_back q = rw may.0 refl in
    omega (arith, before, after)
falls_begun stages.Activating q n may = absurd (none_at q.ended n may.1)
falls_begun stages.Backing q n may =
    let b = length q.backs in
    let before : left_of (at stages.Backing q) ≡ 2 * (b - q.ended) + 1 + 384 = rw (may.0, may.2) refl in
    let after : left_of (begun (at stages.Backing q)) ≡ 2 * (b - q.ended) + 0 + 384 = rw may.0 refl in
    omega (arith, before, after)
falls_begun stages.Rolling q n may = absurd (none_at q.ended n may.1)

falls_moved : (s : Stage) (q : Pending) (n : List ℕ) → MayEnd n (at s q) → left_of (moved_on (at s q)) + 1 ≤ left_of (at s q)
falls_moved stages.Booting q n may =
    let b = length q.plan.boots in
    let lt : q.ended < b = slice_get_within q.plan.boots q.ended n may.1 in
    let before : left_of (at stages.Booting q) ≡ 2 * (b - q.ended) + 0 + 384 + way_back q = rw (may.0, may.2) refl in
    let after : left_of (moved_on (at stages.Booting q)) ≡ 2 * (b - (q.ended + 1)) + 1 + 384 + way_back q = rw may.0 refl in
    omega (arith, before, after, lt)
falls_moved stages.Activating q n may = absurd (none_at q.ended n may.1)
falls_moved stages.Backing q n may = by (is_some (slice_get q.backs (q.ended + 1)))
  where
    b : ℕ
    b = length q.backs

    lt : q.ended < length q.backs
    lt = slice_get_within q.backs q.ended n may.1

    before : left_of (at stages.Backing q) ≡ 2 * (length q.backs - q.ended) + 0 + 384
    before = rw (may.0, may.2) refl

    by : (some : Bool) → left_of (if not some then rolled (one_ended (at stages.Backing q)) else one_ended (at stages.Backing q)) + 1 ≤ left_of
        (at stages.Backing q)
    by true =
        let after : left_of (one_ended (at stages.Backing q)) ≡ 2 * (length q.backs - (q.ended + 1)) + 1 + 384 = rw may.0 refl in
        omega (arith, before, after, lt)
    by false =
        let after : left_of (rolled (one_ended (at stages.Backing q))) ≡ 385 = refl in
        omega (arith, before, after, lt)
falls_moved stages.Rolling q n may = absurd (none_at q.ended n may.1)

falls_failed : (s : Stage) (q : Pending) (n : List ℕ) → MayEnd n (at s q) → left_of (record (at s q) { boot_failed = true }) + 1 ≤ left_of (at s q)
falls_failed stages.Booting q n may =
    let b = length q.plan.boots in
    let before : left_of (at stages.Booting q) ≡ 2 * (b - q.ended) + 0 + 384 + way_back q = rw (may.0, may.2) refl in
    omega (arith, before)
falls_failed stages.Activating q n may = absurd (none_at q.ended n may.1)
falls_failed stages.Backing q n may =
    let b = length q.backs in
    let before : left_of (at stages.Backing q) ≡ 2 * (b - q.ended) + 0 + 384 = rw (may.0, may.2) refl in
    omega (arith, before)
falls_failed stages.Rolling q n may = absurd (none_at q.ended n may.1)

falls_ended : (q : Pending) (n : List ℕ) (e : Exit) → MayEnd n q → left_of (boot_ended e q) + 1 ≤ left_of q
falls_ended q n e may = by (goes_on e)
  where
    by : (go : Bool) → left_of (if go then moved_on q else record q { boot_failed = true }) + 1 ≤ left_of q
    by true = falls_moved q.stage q n may
    by false = falls_failed q.stage q n may

falls_active : (origin : Option Origin) (set : List Item) (q : Pending) → MayActivate q → IsInStage origin set q → left_of (activated q) + 1 ≤ left_of q
falls_active origin set q may is =
    let b = length q.plan.boots in
    let none = (active_in origin set q may is).begun in
    let before : left_of q ≡ 2 * (b - q.ended) + 1 + 384 + way_back q = rw (may.0, may.1, none) refl in
    let after : left_of (activated q) ≡ 384 + way_back q = refl in
    omega (arith, before, after)

fewer : (failures : List ℕ) (k : ℕ) → IsSomeAnd (slice_get failures k) (λ c. c < 3) → failures_left (slice_set failures k (get_or failures k 0 + 1)) + 1
    ≤ failures_left failures
fewer failures k may =
    let h = count_below failures k may in
    let sums = sum_by-set (λ c. 3 - c) failures k (get_or failures k 0 + 1) 0 h.0 in
    omega (arith, sums, h.1)

falls_counted : (set : List Item) (s : Stage) (q : Pending) (n : List ℕ) → MayCount (at s q) (failing_place set (at s q) n) →
    left_of (count_failure set n (at s q)) + 1 ≤ left_of (at s q)
falls_counted set stages.Booting q n may = absurd may
falls_counted set stages.Activating q n may = by (place n q.plan.items) may
  where
    by : (o : Option ℕ) → MayCount (at stages.Activating q) o → left_of (counted o (at stages.Activating q)) + 1 ≤ left_of (at stages.Activating q)
    by None may = absurd may
    by (Some k) may = let less = fewer q.failures k may in omega (arith, less)
falls_counted set stages.Backing q n may = absurd may
falls_counted set stages.Rolling q n may = by (place n set) may
  where
    by : (o : Option ℕ) → MayCount (at stages.Rolling q) o → left_of (counted o (at stages.Rolling q)) + 1 ≤ left_of (at stages.Rolling q)
    by None may = absurd may
    by (Some k) may = let less = fewer q.failures k may in omega (arith, less)

-- where it fails, the way back is left
falls_back : (s : Stage) (q : Pending) (n : List ℕ) → failing_name (at s q) ≡ Some n → way_back q ≤ left_of (at s q)
falls_back stages.Booting q n h = by q.boot_failed h
  where
    by : (b : Bool) → (if b then slice_get q.plan.boots q.ended else None) ≡ Some n →
        way_back q ≤ (if b then way_back q else boots_left q.plan.boots q + 384 + way_back q)
    by true is = omega arith
    by false is = absurd cc
falls_back stages.Activating q n h = omega arith
falls_back stages.Backing q n h = absurd cc
falls_back stages.Rolling q n h = absurd cc

falls_rolled : (q : Pending) (n : List ℕ) → failing_name q ≡ Some n → left_of (rolled q) + 1 ≤ left_of q
falls_rolled q n may =
    let before = falls_back q.stage q n may in
    let after : left_of (rolled q) ≡ 385 = refl in
    omega (arith, before, after)

falls_sent_back : (origin : Option Origin) (set : List Item) (q : Pending) (n : List ℕ) → MayGoBack origin set n q → left_of (sent_back origin set q) + 1
    ≤ left_of q
falls_sent_back None set q n may = absurd may.1
falls_sent_back (Some o) set q n may =
    let before = falls_back q.stage q n may.0.1 in
    let short = filter_short (goes_back o.platform set) (take (reach_of q) q.plan.boots) in
    let prefix = take_short (reach_of q) q.plan.boots in
    let after : left_of (sent_back (Some o) set q) ≡ 2 * (length (backs_of o.platform set q.plan (reach_of q)) - 0) + 1 + 384 = refl in
    omega (arith, before, after, short, prefix)

some_left : (s : Stage) (q : Pending) → 1 ≤ left_of (at s q)
some_left stages.Booting q = by q.boot_failed
  where
    by : (b : Bool) → 1 ≤ (if b then way_back q else boots_left q.plan.boots q + 384 + way_back q)
    by true = omega arith
    by false = omega arith
some_left stages.Activating q = omega arith
some_left stages.Backing q = by q.boot_failed
  where
    by : (b : Bool) → 1 ≤ (if b then 1 else boots_left q.backs q + 384)
    by true = omega arith
    by false = omega arith
some_left stages.Rolling q = omega arith

-- ---- record by record

abbrev pends : Device → Option Pending → Device
pends d o = record d { pending = o }

no_plan : (origin : Option Origin) (p : Plan) → origin ≡ None → IsPlanFor origin p → ⊥
no_plan None p none is = is
no_plan (Some o) p none is = absurd cc

alone : (d : Device) (p : Plan) (o : Option Origin) → IsSomeAnd o (MayAccept d p) → d.pending ≡ None
alone d p None h = absurd h
alone d p (Some o) h = h.0.0

falls : (d : Device) (q : Pending) (r : Record) → IsUnderWay d q → Allowed (pends d (Some q)) r → still_to_come (applied (pends d (Some q)) r) + 1 ≤ left_of q
falls d q (Genesis o) way may = absurd (no_plan d.origin q.plan may.0 way.0.plan_is)
falls d q (Accepted p) way may = absurd (let none = alone (pends d (Some q)) p d.origin may in let no : ◌≡◌ {A = Option Pending} (Some q) None = none in cc)
falls d q (BootBegun n) way may = falls_begun q.stage q n may
falls d q (BootEnded n e) way may = falls_ended q n e may
falls d q Activating way may = falls_active d.origin d.set q may way.1
falls d q (StepFailed n s e) way may = falls_counted d.set q.stage q n may.0
falls d q (Failing n) way may = falls_rolled q n may.1
falls d q (FailingBack n) way may = falls_sent_back d.origin d.set q n may
falls d q (Closed o) way may = let some = some_left q.stage q in omega (arith, some)
falls d q _ way may = absurd may

run_out : (d : Device) (o : Option Pending) (r : Record) → IsSome o → IfSome o (IsUnderWay d) → Allowed (pends d o) r →
    still_to_come (applied (pends d o) r) + 1 ≤ still_to_come (pends d o)
run_out d None r some way may = absurd cc
run_out d (Some q) r some way may = falls d q r way may

pub records_run_out : (d e : Device) (r : Record) → IsSound d → IsSome d.pending → Lawful d r e → still_to_come e + 1 ≤ still_to_come d
records_run_out d e r sound some lawful =
    subst (λ (x : Device). still_to_come x + 1 ≤ still_to_come d) (sym lawful.leaves) (run_out d d.pending r some sound.pending lawful.allowed)

-- ---- the bytes of a record

name_short : (n : List ℕ) → layout.name.Fits n → length (layout.name.spell n) ≤ 132
name_short n fits = let both = length-append (to_be_bytes w32 (length n)) n in let head : length (to_be_bytes w32 (length n)) ≡ 4 = refl in let short =
    fits.0.short in omega (arith, both, head, short)

exit_short : (e : Exit) → length (layout.exit.spell e) ≤ 5
exit_short (exits.Code z) = omega arith
exit_short exits.Signal = omega arith
exit_short exits.TimedOut = omega arith
exit_short exits.NotStarted = omega arith
exit_short exits.Lost = omega arith

-- a record behind an Accepted is short
small : (d : Device) (q : Pending) (p : List ℕ) (r : Record) → Spelled p r → IsUnderWay d q → Allowed (pends d (Some q)) r → length p ≤ 251
small d q p (Genesis o) s way may = absurd (no_plan d.origin q.plan may.0 way.0.plan_is)
small d q p (Accepted plan) s way may = absurd (let none = alone (pends d (Some q)) plan d.origin may in let no : ◌≡◌ {A = Option Pending} (Some q) None =
    none in cc)
small d q p (BootBegun n) s way may = let same = ap length s.same in let short = name_short n s.fits in omega (arith, same, short)
small d q p (BootEnded n e) s way may =
    let same = ap length s.same in
    let both = length-append (layout.name.spell n) (layout.exit.spell e) in
    let short = name_short n s.fits.0 in
    let exit = exit_short e in
    omega (arith, same, both, short, exit)
small d q p Activating s way may = let same = ap length s.same in omega (arith, same)
small d q p (StepFailed n w e) s way may =
    let same = ap length s.same in
    let both = length-append (layout.name.spell n) (layout.step.spell w ++ layout.exit.spell e) in
    let short = name_short n s.fits.0 in
    let exit = exit_short e in
    omega (arith, same, both, short, exit)
small d q p (Failing n) s way may = let same = ap length s.same in let short = name_short n s.fits in omega (arith, same, short)
small d q p (FailingBack n) s way may = let same = ap length s.same in let short = name_short n s.fits in omega (arith, same, short)
small d q p (Closed o) s way may = let same = ap length s.same in omega (arith, same)
small d q p _ s way may = absurd may

left_behind : (at next left : ℕ) (o : Option Pending) → next ≤ at + 256 → option_map_or left_of o 0 + 1 ≤ left →
    IfSome o (λ q. next + 256 * left_of q ≤ at + 256 * left)
left_behind at next left None near less = tt
left_behind at next left (Some q) near less = omega (arith, near, less)

first_left : (d : Device) (r : Record) → Allowed (pends d None) r → IfSome (applied (pends d None) r).pending (λ q. left_of q ≤ 1283)
first_left d (Accepted p) may = let few = few_boots (pends d None) p may in omega (arith, few)
first_left d _ may = tt

takes : (at next : ℕ) (d : Device) (o : Option Pending) (p : List ℕ) (r : Record) → IfSome o (IsUnderWay d) → Spelled p r → Allowed (pends d o) r →
    next ≤ at + 5 + length p → TakesRoom at next (pends d o) (applied (pends d o) r)
takes at next d None p r way spelled may near = first_left d r may
takes at next d (Some q) p r way spelled may near =
    let short = small d q p r spelled way may in
    left_behind at next (left_of q) (applied (pends d (Some q)) r).pending (omega (arith, near, short)) (falls d q r way may)

pub takes_room : (at next : ℕ) (d e : Device) (p : List ℕ) → IsSound d → IsPayload d p e → next ≤ at + 5 + length p → TakesRoom at next d e
takes_room at next d e p sound t near =
    subst (λ (x : Device). TakesRoom at next d x) (sym t.lawful.leaves) (takes at next d d.pending p t.entry sound.pending t.spelled t.lawful.allowed near)

-- ---- the room along a replay

-- the records up to the close of the pending deployment fit behind the place, counted from the place behind its Accepted
abbrev pub IsAhead : ℕ → ℕ → Device → Type 0
IsAhead at behind d = IfSome d.pending (λ q. at + 256 * left_of q ≤ behind + 256 * 1283)

each_within : (at next : ℕ) (o : Option Pending) → IfSome o (λ q. left_of q ≤ 1283) → IfSome o (λ q. next + 256 * left_of q ≤ next + 256 * 1283)
each_within at next None h = tt
each_within at next (Some q) h = omega (arith, h)

pub first_ahead : (at next : ℕ) (device : code.Device) (e : Device) → is_some device.pending ≡ false → TakesRoom at next (device_view device) e →
    IsAhead next next e
first_ahead at next device e none room = by device.pending none room
  where
    by : (o : Option code_pending.Pending) → is_some o ≡ false
        → MatchOption (option_map pending_view o) (IfSome e.pending (λ q. left_of q ≤ 1283))
        (λ p. IfSome e.pending (λ q. next + 256 * left_of q ≤ at + 256 * left_of p)) → IsAhead next next e
    by None none room = each_within at next e.pending room
    by (Some p) none room = absurd cc

each_later : (at next behind left : ℕ) (o : Option Pending) → at + 256 * left ≤ behind + 256 * 1283 → IfSome o (λ q. next + 256 * left_of q ≤ at + 256 * left)
    → IfSome o (λ q. next + 256 * left_of q ≤ behind + 256 * 1283)
each_later at next behind left None ahead h = tt
each_later at next behind left (Some q) ahead h = omega (arith, h, ahead)

pub later_ahead : (at next behind : ℕ) (device : code.Device) (e : Device) → is_some device.pending ≡ true → IsAhead at behind (device_view device) →
    TakesRoom at next (device_view device) e → IsAhead next behind e
later_ahead at next behind device e some ahead room = by device.pending some ahead room
  where
    by : (o : Option code_pending.Pending) → is_some o ≡ true → IfSome (option_map pending_view o) (λ q. at + 256 * left_of q ≤ behind + 256 * 1283)
        → MatchOption (option_map pending_view o) (IfSome e.pending (λ q. left_of q ≤ 1283))
        (λ p. IfSome e.pending (λ q. next + 256 * left_of q ≤ at + 256 * left_of p)) → IsAhead next behind e
    by None some ahead room = absurd cc
    by (Some p) some ahead room = each_later at next behind (left_of (pending_view p)) e.pending ahead room

pub ends_ahead : (end at behind : ℕ) (device : code.Device) → end ≤ at → (is_some device.pending && nat_lt most_file (behind + room_of_plan)) ≡ false →
    IsAhead at behind (device_view device) → HasRoom end (device_view device)
ends_ahead end at behind device past room ahead = by device.pending room ahead
  where
    by : (o : Option code_pending.Pending) → (is_some o && nat_lt most_file (behind + room_of_plan)) ≡ false →
        IfSome (option_map pending_view o) (λ q. at + 256 * left_of q ≤ behind + 256 * 1283)
        → IfSome (option_map pending_view o) (λ q. end + 256 * left_of q ≤ most_file)
    by None room ahead = tt
    by (Some p) room ahead = let le = ltb-false most_file (behind + room_of_plan) room in omega (arith, le, ahead, past)
