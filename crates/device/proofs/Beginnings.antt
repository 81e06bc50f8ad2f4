-- How payloads begin that mean a device from its front on.
use Rattle.std.proofs.Common.{◌≡◌, ◌⊎◌, ℕ, ◌+◌, ◌<◌, ◌≤◌, List, [], ◌∷◌, ◌++◌, length, map, Option, Some, None, refl, sym, ap, subst, ◌∙◌, arith}
use Rattle.std.specs.Option.{IsSome}
use Rattle.std.specs.List.{AllZip}
use Rattle.std.proofs.lemmas.List.{length-append, length-map, append_cancel_left}
use Rattle.std.proofs.lemmas.Slice.Zip.{AllZip-long}
use Rattle.records.specs.declared.record.Origin.{Origin}
use Rattle.records.specs.Stored.{Record, Turned, Grouped, Kept}
use Rattle.records.specs.Layout.{Spelled}
use Rattle.records.proofs.Layouts.{one_record}
use Rattle.device.specs.Devices.{Device, no_device}
use Rattle.device.specs.Lawful.{Allowed}
use Rattle.device.specs.Fronts.{ended, stock_of, front_by, IsFrontOf}
use Rattle.device.specs.Standing.{IsPayload, ArePayloads, MeansAnew, IsTurn, IsNoTurnBehind}
use Rattle.device.proofs.Fronting.{one_front}

-- the first of the payloads is a turn
abbrev pub BeginsWithTurn : List (List ℕ) → Type 0
BeginsWithTurn [] = ⊥
BeginsWithTurn (p ∷ ps) = IsTurn p

pub turn_stays : (ps qs : List (List ℕ)) → BeginsWithTurn ps → BeginsWithTurn (ps ++ qs)
turn_stays [] qs turn = absurd turn
turn_stays (p ∷ ps) qs turn = turn

-- a turn is lawful in no device
pub no_turn_taken : (d e : Device) (p : List ℕ) → IsTurn p → IsPayload d p e → ⊥
no_turn_taken d e p turn takes =
    let same = one_record p takes.entry (Turned turn.number turn.origin turn.groups turn.items turn.closed) takes.spelled turn.spelled in
    subst (Allowed d) same takes.lawful.allowed

pub no_turn_plays : (ps : List (List ℕ)) (d : Device) → BeginsWithTurn ps → ArePayloads no_device ps d → ⊥
no_turn_plays [] d turn plays = turn
no_turn_plays (p ∷ ps) d turn plays = no_turn_taken no_device plays.0 p turn plays.1

-- where records play up to a payload that is no turn, no turn stands first
pub no_turn_before : (before : List (List ℕ)) (bad : List ℕ) (behind : List (List ℕ)) (d : Device) → IsNoTurnBehind before bad →
    BeginsWithTurn (before ++ bad ∷ behind) → ArePayloads no_device before d → ⊥
no_turn_before [] bad behind d none turn plays = none turn
no_turn_before (p ∷ before) bad behind d none turn plays = no_turn_taken no_device plays.0 p turn plays.1

-- ---- the first record of a front

-- the turn, and how many stand behind it
pub record Heads (records : List Record) (d : Device) : Type 0 where
  pub number : ℕ
  pub origin : Origin
  pub is : records ≡ Turned number origin (length d.groups) (length d.set) (length d.closed) ∷ stock_of d

pub heads : (records : List Record) (d : Device) → IsFrontOf records d → Heads records d
heads records d front = by d.origin front.has.origin front.is
  where
    by : (o : Option Origin) → IsSome o → records ≡ front_by front.number d o → Heads records d
    by None some is = absurd cc
    by (Some o) some is = record { number = front.number; origin = o; is = is }

pub front_long : (records : List Record) (d : Device) → IsFrontOf records d → length records ≡ 1 + length d.groups + length d.set + length d.closed
front_long records d front =
    let h = heads records d front in
    let whole = ap length h.is in
    let first = length-append (map Grouped d.groups) (map Kept d.set ++ map ended d.closed) in
    let second = length-append (map Kept d.set) (map ended d.closed) in
    let g = length-map d.groups Grouped in
    let i = length-map d.set Kept in
    let c = length-map d.closed ended in
    omega (arith, whole, first, second, g, i, c)

first_turn : (ps : List (List ℕ)) (r : Record) (rs records : List Record) (n : ℕ) (o : Origin) (g i c : ℕ) → records ≡ r ∷ rs → r ≡ Turned n o g i c →
    AllZip Spelled ps records → BeginsWithTurn ps
first_turn [] r rs records n o g i c is first zip = absurd (subst (AllZip Spelled []) is zip)
first_turn (p ∷ ps) r rs records n o g i c is first zip =
    let spelled = (subst (AllZip Spelled (p ∷ ps)) is zip).0 in
    record { number = n; origin = o; groups = g; items = i; closed = c; spelled = subst (Spelled p) first spelled }

pub front_turns : (ps : List (List ℕ)) (records : List Record) (d : Device) → AllZip Spelled ps records → IsFrontOf records d → BeginsWithTurn ps
front_turns ps records d zip front =
    let h = heads records d front in
    first_turn ps (Turned h.number h.origin (length d.groups) (length d.set) (length d.closed)) (stock_of d) records h.number h.origin
    (length d.groups) (length d.set) (length d.closed) h.is refl zip

pub anew_turns : (ps : List (List ℕ)) (d : Device) → MeansAnew ps d → BeginsWithTurn ps
anew_turns ps d anew = subst BeginsWithTurn (sym anew.split)
    (turn_stays anew.front anew.after (front_turns anew.front anew.records anew.begun anew.spelled anew.is))

-- ---- payloads begin with one front

-- the payloads of two fronts that begin the same payloads spell the same turn, so the fronts are as long
same_first : (p : List ℕ) (r s : Record) → Spelled p r → Spelled p s → r ≡ s
same_first p r s x y = one_record p r s x y

as_long : (front other after more : List (List ℕ)) (records others : List Record) (d e : Device) → front ++ after ≡ other ++ more →
    AllZip Spelled front records → AllZip Spelled other others
    → IsFrontOf records d → IsFrontOf others e → length front ≡ length other
as_long front other after more records others d e is x y a b =
    by front other records others is x y (heads records d a) (heads others e b) (AllZip-long Spelled front records x) (AllZip-long Spelled other others y)
    (front_long records d a) (front_long others e b)
  where
    by : (front other : List (List ℕ)) (records others : List Record) → front ++ after ≡ other ++ more → AllZip Spelled front records →
        AllZip Spelled other others → Heads records d → Heads others e
        → length records ≡ length front → length others ≡ length other
        → length records ≡ 1 + length d.groups + length d.set + length d.closed → length others ≡ 1 + length e.groups + length e.set + length e.closed →
        length front ≡ length other
    by [] other [] others is x y h k rl ol rc oc = absurd (omega (arith, rc))
    by [] other (r ∷ rs) others is x y h k rl ol rc oc = absurd x
    by (p ∷ ps) other [] others is x y h k rl ol rc oc = absurd x
    by (p ∷ ps) [] (r ∷ rs) [] is x y h k rl ol rc oc = absurd (omega (arith, oc))
    by (p ∷ ps) [] (r ∷ rs) (s ∷ ss) is x y h k rl ol rc oc = absurd y
    by (p ∷ ps) (q ∷ qs) (r ∷ rs) [] is x y h k rl ol rc oc = absurd y
    by (p ∷ ps) (q ∷ qs) (r ∷ rs) (s ∷ ss) is x y h k rl ol rc oc =
        let head : p ≡ q = cc in
        let same = same_first q r s (subst (λ (z : List ℕ). Spelled z r) head x.0) y.0 in
        let first = h.is in
        let second = k.is in
        let turn : Turned h.number h.origin (length d.groups) (length d.set) (length d.closed) ≡ Turned k.number k.origin
        (length e.groups) (length e.set) (length e.closed) = cc in
        let g : length d.groups ≡ length e.groups = cc in
        let i : length d.set ≡ length e.set = cc in
        let c : length d.closed ≡ length e.closed = cc in
        omega (arith, rl, ol, rc, oc, g, i, c)

same_parts : {A : Type 0} (a c b d : List A) → length a ≡ length c → a ++ b ≡ c ++ d → (a ≡ c) × (b ≡ d)
same_parts [] [] b d long is = (refl, is)
same_parts [] (y ∷ c) b d long is = absurd (omega (arith, long))
same_parts (x ∷ a) [] b d long is = absurd (omega (arith, long))
same_parts (x ∷ a) (y ∷ c) b d long is =
    let head : x ≡ y = cc in
    let tail : a ++ b ≡ c ++ d = cc in
    let rest = same_parts a c b d (omega (arith, long)) tail in
    let same = rest.0 in
    (cc, rest.1)

pub same_spelled : (ps : List (List ℕ)) (rs ss : List Record) → AllZip Spelled ps rs → AllZip Spelled ps ss → rs ≡ ss
same_spelled [] [] [] x y = refl
same_spelled [] [] (s ∷ ss) x y = absurd y
same_spelled [] (r ∷ rs) ss x y = absurd x
same_spelled (p ∷ ps) [] ss x y = absurd x
same_spelled (p ∷ ps) (r ∷ rs) [] x y = absurd y
same_spelled (p ∷ ps) (r ∷ rs) (s ∷ ss) x y =
    let head = one_record p r s x.0 y.0 in
    let tail = same_spelled ps rs ss x.1 y.1 in
    cc

pub same_beginning : (ps front after other more : List (List ℕ)) (records others : List Record) (d e : Device) → ps ≡ front ++ after → ps ≡ other ++ more
    → AllZip Spelled front records → AllZip Spelled other others → IsFrontOf records d → IsFrontOf others e → (d ≡ e) × (after ≡ more)
same_beginning ps front after other more records others d e first second x y a b =
    let is = sym first ∙ second in
    let parts = same_parts front other after more (as_long front other after more records others d e is x y a b) is in
    let same = same_spelled other records others (subst (λ (l : List (List ℕ)). AllZip Spelled l records) parts.0 x) y in
    (one_front others d e (subst (λ (l : List Record). IsFrontOf l d) same a) b, parts.1)
