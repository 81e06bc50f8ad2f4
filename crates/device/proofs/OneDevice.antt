-- A journal stands for one device at most.
use Rattle.std.proofs.Common.{◌≡◌, ◌∙◌, append_assoc, inl, inr, ℕ, ◌+◌, ◌<◌, ◌≤◌, List, [], ◌∷◌, ◌++◌, ap, sym, subst, refl, arith, Option, Some, None, IfSome}
use Rattle.std.proofs.lemmas.Bool.{false≢true}
use Rattle.std.specs.List.{AllByRecursion}
use Rattle.std.specs.Option.{IsSome}
use Rattle.disk_model.specs.Disk.{Image}
use Rattle.gate_log.specs.Entries.{most_file}
use Rattle.gate_log.specs.Journal.{JournalLaws, log_none}
use Rattle.gate_log.specs.Laws.{log_laws}
use Rattle.gate_log.specs.Place.{place_behind}
use Rattle.records.specs.Stored.{Plan, Accepted}
use Rattle.records.specs.Layout.{Spelled}
use Rattle.records.proofs.Layouts.{one_record}
use Rattle.device.specs.Devices.{Device, Pending, no_device}
use Rattle.device.specs.Damage.{StandsForNone, IsDamagedIn, IsDamage}
use Rattle.device.specs.Lawful.{applied}
use Rattle.device.specs.Standing.{IsPayload, ArePayloads, IsMeant, SpellsNoPlan, IsBehindAccepted, HasSpace}
use Rattle.device.specs.Standing.{StandsFor, IsLogImageOf, IsBadAt, LacksRoomAt, LacksFrontAt, IsDamagedAt}
use Rattle.device.specs.Limits.{room_of_plan}
use Rattle.device.proofs.Beginnings.{BeginsWithTurn, anew_turns, no_turn_plays, no_turn_before, turn_stays, same_beginning}

-- a journal without an entry stands for the device before its first record
pub none_stands_for : {J : Type 0} {files : List ℕ → Type 0} {entries : Image → List (List ℕ) → Type 0} {holds_none : Image → Type 0} {is_damaged : Image →
    ℕ → Type 0} {stands : J → Image → List (List ℕ) → Type 0} {end : J → ℕ}
    → JournalLaws files entries holds_none is_damaged stands end → (image : Image) → holds_none image → StandsFor entries image no_device
none_stands_for laws image none = record { payloads = []; live = laws.none_held image none; means = inl refl; room = tt }

pub none_stands : (image : Image) → log_none image → IsLogImageOf image no_device
none_stands image none = none_stands_for log_laws image none

same_takes : (d : Device) (p : List ℕ) (a b : Device) → IsPayload d p a → IsPayload d p b → a ≡ b
same_takes d p a b x y = x.lawful.leaves ∙ ap (applied d) (one_record p x.entry y.entry x.spelled y.spelled) ∙ sym y.lawful.leaves

pub same_plays : (d : Device) (ps : List (List ℕ)) (a b : Device) → ArePayloads d ps a → ArePayloads d ps b → a ≡ b
same_plays d [] a b x y = x ∙ sym y
same_plays d (p ∷ ps) a b x y = same_plays x.0 ps a b x.2 (subst (λ (c : Device). ArePayloads c ps b) (sym (same_takes d p x.0 y.0 x.1 y.1)) y.2)

-- payloads mean one device
pub same_meaning : (ps : List (List ℕ)) (a b : Device) → IsMeant ps a → IsMeant ps b → a ≡ b
same_meaning ps a b (inl x) (inl y) = same_plays no_device ps a b x y
same_meaning ps a b (inl x) (inr y) = absurd (no_turn_plays ps a (anew_turns ps b y) x)
same_meaning ps a b (inr x) (inl y) = absurd (no_turn_plays ps b (anew_turns ps a x) y)
same_meaning ps a b (inr x) (inr y) =
    let same = same_beginning ps x.front x.after y.front y.after x.records y.records x.begun y.begun x.split y.split x.spelled y.spelled x.is y.is in
    same_plays x.begun x.after a b x.plays (subst (λ (l : List (List ℕ)). ArePayloads x.begun l b) (sym same.1)
    (subst (λ (d : Device). ArePayloads d y.after b) (sym same.0) y.plays))

-- an image of any journal stands for one device
pub same_device_for : {J : Type 0} {files : List ℕ → Type 0} {entries : Image → List (List ℕ) → Type 0} {holds_none : Image → Type 0} {is_damaged : Image →
    ℕ → Type 0} {stands : J → Image → List (List ℕ) → Type 0} {end : J → ℕ}
    → JournalLaws files entries holds_none is_damaged stands end → (image : Image) (d e : Device) → StandsFor entries image d → StandsFor entries image e →
    d ≡ e
same_device_for laws image d e x y =
    let same = laws.one image x.payloads y.payloads x.live y.live in
    same_meaning y.payloads d e (subst (λ (ps : List (List ℕ)). IsMeant ps d) same x.means) y.means

pub same_device : (image : Image) (d e : Device) → IsLogImageOf image d → IsLogImageOf image e → d ≡ e
same_device image d e x y = same_device_for log_laws image d e x y

-- ---- payloads that are damaged stand for no device

splits : (d : Device) (before : List (List ℕ)) (bad : List ℕ) (behind : List (List ℕ)) (e : Device) → ArePayloads d (before ++ bad ∷ behind) e
    → (c : Device) × ArePayloads d before c × ((f : Device) × IsPayload c bad f)
splits d [] bad behind e plays = (d, refl, (plays.0, plays.1))
splits d (p ∷ ps) bad behind e plays =
    let rest = splits plays.0 ps bad behind e plays.2 in
    (rest.0, (plays.0, plays.1, rest.1), rest.2)

bad_means : (ps : List (List ℕ)) (at : ℕ) (d : Device) → IsBadAt ps at → IsMeant ps d → ⊥
bad_means ps at d bad (inl plays) = by bad.means
  where
    by : IsMeant bad.before bad.reached → ⊥
    by (inl before) =
        let parts = splits no_device bad.before bad.bad bad.behind d (subst (λ (l : List (List ℕ)). ArePayloads no_device l d) bad.split plays) in
        bad.refused parts.2.0
        (subst (λ (c : Device). IsPayload c bad.bad parts.2.0) (same_plays no_device bad.before parts.0 bad.reached parts.1 before) parts.2.1)
    by (inr anew) = no_turn_plays ps d (subst BeginsWithTurn (sym bad.split)
        (turn_stays bad.before (bad.bad ∷ bad.behind) (anew_turns bad.before bad.reached anew))) plays
bad_means ps at d bad (inr anew) = by bad.means
  where
    turns : BeginsWithTurn (bad.before ++ bad.bad ∷ bad.behind)
    turns = subst BeginsWithTurn bad.split (anew_turns ps d anew)

    by : IsMeant bad.before bad.reached → ⊥
    by (inl before) = no_turn_before bad.before bad.bad bad.behind bad.reached bad.no_turn turns before
    by (inr begun) =
        let whole : ps ≡ begun.front ++ (begun.after ++ bad.bad ∷ bad.behind) = bad.split ∙ ap (λ (l : List (List ℕ)). l ++ bad.bad ∷ bad.behind) begun.split
        ∙ append_assoc begun.front begun.after (bad.bad ∷ bad.behind) in
        let same = same_beginning ps begun.front (begun.after ++ bad.bad ∷ bad.behind) anew.front anew.after begun.records anew.records begun.begun anew.begun
        whole anew.split begun.spelled anew.spelled begun.is anew.is in
        let plays = subst (λ (l : List (List ℕ)). ArePayloads begun.begun l d) (sym same.1)
        (subst (λ (x : Device). ArePayloads x anew.after d) (sym same.0) anew.plays) in
        let parts = splits begun.begun begun.after bad.bad bad.behind d plays in
        bad.refused parts.2.0
        (subst (λ (c : Device). IsPayload c bad.bad parts.2.0) (same_plays begun.begun begun.after parts.0 bad.reached parts.1 begun.plays) parts.2.1)

IsPlan : List ℕ → Type 0
IsPlan p = (plan : Plan) × Spelled p (Accepted plan)

not_among : (before : List (List ℕ)) (p : List ℕ) (after : List (List ℕ)) → AllByRecursion SpellsNoPlan (before ++ p ∷ after) → SpellsNoPlan p
not_among [] p after all = all.0
not_among (b ∷ before) p after all = not_among before p after all.1

-- the last plan stands at one place
same_last : (before other : List (List ℕ)) (p q : List ℕ) (after more : List (List ℕ)) → before ++ p ∷ after ≡ other ++ q ∷ more
    → (plan : Plan) → Spelled p (Accepted plan) → (next : Plan) → Spelled q (Accepted next)
    → AllByRecursion SpellsNoPlan after → AllByRecursion SpellsNoPlan more → before ++ p ∷ [] ≡ other ++ q ∷ []
same_last [] [] p q after more is plan first next second none nothing = cc
same_last [] (c ∷ other) p q after more is plan first next second none nothing =
    let rest : after ≡ other ++ q ∷ more = cc in
    absurd (not_among other q more (subst (AllByRecursion SpellsNoPlan) rest none) next second)
same_last (b ∷ before) [] p q after more is plan first next second none nothing =
    let rest : before ++ p ∷ after ≡ more = cc in
    absurd (not_among before p after (subst (AllByRecursion SpellsNoPlan) (sym rest) nothing) plan first)
same_last (b ∷ before) (c ∷ other) p q after more is plan first next second none nothing =
    let rest : before ++ p ∷ after ≡ other ++ q ∷ more = cc in
    let head : b ≡ c = cc in
    let ends = same_last before other p q after more rest plan first next second none nothing in
    ap (λ (x : List ℕ). x ∷ (before ++ p ∷ [])) head ∙ ap (λ (l : List (List ℕ)). c ∷ l) ends

same_place : (ps : List (List ℕ)) (a b : ℕ) → IsBehindAccepted ps a → IsBehindAccepted ps b → a ≡ b
same_place ps a b x y =
    x.place
    ∙ ap place_behind (same_last x.before y.before x.payload y.payload x.after y.after (sym x.split ∙ y.split) x.plan x.spelled y.plan y.spelled x.last y.last)
    ∙ sym y.place

has_room : (ps : List (List ℕ)) (at : ℕ) (q : Option Pending) → IsBehindAccepted ps at → most_file < at + room_of_plan
    → IsSome q → IfSome q (λ p. (place : ℕ) × IsBehindAccepted ps place × (place + room_of_plan ≤ most_file)) → ⊥
has_room ps at None behind lacks some room = absurd (false≢true some)
has_room ps at (Some q) behind lacks some room =
    let same : at ≡ room.0 = same_place ps at room.0 behind room.1 in
    absurd (omega (arith, same, room.2, lacks))

lacks_means : (ps : List (List ℕ)) (at : ℕ) (d : Device) → LacksRoomAt ps at → IsMeant ps d → HasSpace ps d → ⊥
lacks_means ps at d lacks means room =
    has_room ps at lacks.reached.pending lacks.behind lacks.lacks lacks.pending
    (subst (λ (e : Device). HasSpace ps e) (same_meaning ps d lacks.reached means lacks.means) room)

lacks_front : (ps : List (List ℕ)) (at : ℕ) (d : Device) → LacksFrontAt ps at → IsMeant ps d → ⊥
lacks_front ps at d lacks (inl plays) = no_turn_plays ps d (subst BeginsWithTurn (sym lacks.split) lacks.turn) plays
lacks_front ps at d lacks (inr anew) = lacks.none anew.front anew.after anew.records anew.split anew.spelled anew.begun anew.is

pub damaged_means : (ps : List (List ℕ)) (at : ℕ) (d : Device) → IsDamagedAt ps at → IsMeant ps d → HasSpace ps d → ⊥
damaged_means ps at d (inl bad) means room = bad_means ps at d bad means
damaged_means ps at d (inr (inl lacks)) means room = lacks_means ps at d lacks means room
damaged_means ps at d (inr (inr lacks)) means room = lacks_front ps at d lacks means

-- a damaged image stands for no device
pub damage : {J : Type 0} {files : List ℕ → Type 0} {entries : Image → List (List ℕ) → Type 0} {holds_none : Image → Type 0} {is_damaged : Image → ℕ → Type 0}
    {stands : J → Image → List (List ℕ) → Type 0} {end : J → ℕ}
    → JournalLaws files entries holds_none is_damaged stands end → (image : Image) (at : ℕ) → IsDamagedIn entries is_damaged image at →
    IsDamage entries is_damaged image at
damage {entries = entries} {is_damaged = is_damaged} laws image at place = record { place = place; none = none place }
  where
    none : IsDamagedIn entries is_damaged image at → StandsForNone entries image
    none (inl damaged) d stands = laws.not_damaged image at stands.payloads damaged stands.live
    none (inr damaged) d stands =
        let same = laws.one image stands.payloads damaged.0 stands.live damaged.1 in
        damaged_means damaged.0 at d damaged.2
        (subst (λ (ps : List (List ℕ)). IsMeant ps d) same stands.means)
        (subst (λ (ps : List (List ℕ)). HasSpace ps d) same stands.room)
