-- How often the inbox was asked, by what a history leaves.
use Rattle.std.specs.Prelude.{ℕ, ◌-◌, true, false, List, [], ◌∷◌, ◌++◌, length}
use Rattle.std.proofs.Common.{◌≡◌, ◌≤◌, ◌∙◌, ◌+◌, refl, sym, ap, append_assoc, arith}
use Rattle.std.proofs.lemmas.List.{append-nil, length_push}
use Rattle.step_runner.specs.declared.entries.Seen.{Seen}
use Rattle.step_runner.specs.declared.entries.Seen.TheVariants as seen
use Rattle.components.specs.declared.kinds.Prepared.{Prepared}
use Rattle.histories.specs.Follows.{IsProper}
use Rattle.histories.specs.States.{SessionState, booted, cut_off, state_after}
use Rattle.histories.specs.TraceEvents.{Answer, TraceEvent, Ran, Booted, WaitElapsed, KilledOnAbort, Recorded, Moved, ReadClock, Heard, InboxAsked}
use Rattle.histories.specs.TraceEvents.{Changed, StopsAll}
use Rattle.session_serving.specs.Rounds.{questions_of}

pub questions-append : (g h : List TraceEvent) → questions_of (g ++ h) ≡ questions_of h ++ questions_of g
questions-append [] h = sym (append-nil (questions_of h))
questions-append (InboxAsked a ∷ g) h =
    ap (λ (l : List Answer). l ++ a ∷ []) (questions-append g h) ∙ append_assoc (questions_of h) (questions_of g) (a ∷ [])
questions-append (Ran e k s ∷ g) h = questions-append g h
questions-append (Booted e m ∷ g) h = questions-append g h
questions-append (WaitElapsed e ∷ g) h = questions-append g h
questions-append (KilledOnAbort e ∷ g) h = questions-append g h
questions-append (Recorded r ∷ g) h = questions-append g h
questions-append (Moved k e ∷ g) h = questions-append g h
questions-append (ReadClock m ∷ g) h = questions-append g h
questions-append (Heard k ∷ g) h = questions-append g h
questions-append (Changed f c b ∷ g) h = questions-append g h
questions-append (StopsAll ∷ g) h = questions-append g h

booted_turns : (s : Seen) (m : Prepared) (p : SessionState) → (booted s m p).turns ≡ p.turns
booted_turns (seen.Started n c) m p = refl
booted_turns (seen.Refused c) m p = refl
booted_turns (seen.Killed n) m p = refl
booted_turns (seen.Exists x true) m p = refl
booted_turns (seen.Exists x false) m p = refl
booted_turns (seen.OnPath x true) m p = refl
booted_turns (seen.OnPath x false) m p = refl
booted_turns (seen.Ended n e l) m p = refl
booted_turns (seen.Elapsed l) m p = refl

cut_turns : (s : Seen) (p : SessionState) → (cut_off s p).turns ≡ p.turns
cut_turns (seen.Started n c) p = refl
cut_turns (seen.Refused c) p = refl
cut_turns (seen.Killed n) p = refl
cut_turns (seen.Exists x b) p = refl
cut_turns (seen.OnPath x b) p = refl
cut_turns (seen.Ended n e l) p = refl
cut_turns (seen.Elapsed l) p = refl

one_asked : (left before asked all : ℕ) → 1 ≤ left → left + before ≡ all → asked ≡ before + 1 → left - 1 + asked ≡ all
one_asked left before asked all a b d = omega (arith, a, b, d)

-- each question takes one of the turns, and nothing else does
pub turns_fall : (p : SessionState) (h : List TraceEvent) → IsProper p h → (state_after p h).turns + length (questions_of h) ≡ p.turns
turns_fall p [] proper = omega arith
turns_fall p (InboxAsked a ∷ h) proper = one_asked (state_after p h).turns (length (questions_of h)) (length (questions_of h ++ a ∷ [])) p.turns
    proper.0.0.left (turns_fall p h proper.1) (length_push (questions_of h) a)
turns_fall p (Ran e k s ∷ h) proper = turns_fall p h proper.1
turns_fall p (Booted e m ∷ h) proper =
    ap (λ (n : ℕ). n + length (questions_of h)) (booted_turns e.seen m (state_after p h)) ∙ turns_fall p h proper.1
turns_fall p (WaitElapsed e ∷ h) proper = turns_fall p h proper.1
turns_fall p (KilledOnAbort e ∷ h) proper =
    ap (λ (n : ℕ). n + length (questions_of h)) (cut_turns e.seen (state_after p h)) ∙ turns_fall p h proper.1
turns_fall p (Recorded r ∷ h) proper = turns_fall p h proper.1
turns_fall p (Moved k e ∷ h) proper = turns_fall p h proper.1
turns_fall p (ReadClock m ∷ h) proper = turns_fall p h proper.1
turns_fall p (Heard k ∷ h) proper = turns_fall p h proper.1
turns_fall p (Changed f c b ∷ h) proper = turns_fall p h proper.1
turns_fall p (StopsAll ∷ h) proper = turns_fall p h proper.1

none_long : (l : List Answer) → length l ≡ 0 → l ≡ []
none_long [] is = refl
none_long (a ∷ l) is = absurd (omega (arith, is))

-- where as many turns are left as before, the inbox was not asked
pub not_asked : (p : SessionState) (h : List TraceEvent) → IsProper p h → (state_after p h).turns ≡ p.turns → questions_of h ≡ []
not_asked p h proper same =
    let all = turns_fall p h proper in
    none_long (questions_of h) (omega (arith, all, same))
