-- Rounds join.
use Rattle.std.specs.Prelude.{ℕ, List, [], ◌∷◌, ◌++◌, length, Option, Some, None}
use Rattle.std.proofs.Common.{◌≡◌, ◌∙◌, ◌+◌, refl, sym, ap, subst, append_assoc, arith}
use Rattle.edges.specs.declared.answered.Answered.{Answered}
use Rattle.edges.specs.declared.answered.Kind.TheVariants.{Document, Nothing}
use Rattle.edges.specs.Inboxes.{after_answer, after_done}
use Rattle.edges.specs.Waiting.{Waiting, without_first}
use Rattle.device.specs.Devices.{Device}
use Rattle.records.specs.Stored.{Record}
use Rattle.histories.specs.TraceEvents.{Answer, document, nothing}
use Rattle.session_serving.specs.Libraries.{LibraryState}
use Rattle.session_serving.specs.Rounds.{AreGiven, AreHandled, AreStarted, WaitingLeft, Handled, Round, Took, Waited, answered_by, lines_of_rounds}
use Rattle.session_serving.specs.Rounds.{records_of_rounds}
use Rattle.session_serving.specs.Rounds.{questions_of_rounds, waiting_behind}

pub records_both : (a b : List Round) → records_of_rounds (a ++ b) ≡ records_of_rounds a ++ records_of_rounds b
records_both [] b = refl
records_both (Waited ∷ a) b = records_both a b
records_both (Took x ∷ a) b = ap (λ (l : List Record). x.records ++ l) (records_both a b) ∙
    sym (append_assoc x.records (records_of_rounds a) (records_of_rounds b))

pub lines_both : (a b : List Round) → lines_of_rounds (a ++ b) ≡ lines_of_rounds a ++ lines_of_rounds b
lines_both [] b = refl
lines_both (Waited ∷ a) b = lines_both a b
lines_both (Took x ∷ a) b = ap (λ (l : List ℕ). x.lines ++ l) (lines_both a b) ∙ sym (append_assoc x.lines (lines_of_rounds a) (lines_of_rounds b))

pub asked_both : (a b : List Round) → questions_of_rounds (a ++ b) ≡ questions_of_rounds a ++ questions_of_rounds b
asked_both [] b = refl
asked_both (Waited ∷ a) b = ap (λ (l : List Answer). nothing ∷ l) (asked_both a b)
asked_both (Took x ∷ a) b = ap (λ (l : List Answer). document ∷ l) (asked_both a b)

pub answered_both : (a b : List Round) (x : Answered) → answered_by (a ++ b) x ≡ answered_by b (answered_by a x)
answered_both [] b x = refl
answered_both (Waited ∷ a) b x = answered_both a b (after_answer Nothing x)
answered_both (Took y ∷ a) b x = answered_both a b (after_done (after_answer Document x))

waiting_both : (a b : List Round) (w : Waiting) → waiting_behind (a ++ b) w ≡ waiting_behind b (waiting_behind a w)
waiting_both [] b w = refl
waiting_both (Waited ∷ a) b w = waiting_both a b w
waiting_both (Took y ∷ a) b w = waiting_both a b (without_first w)

given_both : (a b : List Round) (w : Waiting) → AreGiven w a → AreGiven (waiting_behind a w) b → AreGiven w (a ++ b)
given_both [] b w one two = two
given_both (Waited ∷ a) b w one two = (one.0, given_both a b w one.1 two)
given_both (Took y ∷ a) b w one two = (one.0, given_both a b (without_first w) one.1 two)

pub gives_both : (old mid new : Option Waiting) (a b : List Round) → WaitingLeft old mid a → WaitingLeft mid new b → WaitingLeft old new (a ++ b)
gives_both None mid new a b one two = subst (λ (o : Option Waiting). WaitingLeft o new b) one two
gives_both (Some w) mid new a b one two =
    let second = subst (λ (o : Option Waiting). WaitingLeft o new b) one.1 two in
    (given_both a b w one.0 second.0, second.1 ∙ ap (λ (x : Waiting). Some x) (sym (waiting_both a b w)))

pub gives_none : (old : Option Waiting) → WaitingLeft old old []
gives_none None = refl
gives_none (Some w) = (tt, refl)

pub handled_both : (Clause : Handled → Type 0) (a b : List Round) (d c e : Device) (n k m : LibraryState) (f i g : ℕ) → AreHandled Clause d n f a c k i →
    AreHandled Clause c k i b e m g → AreHandled Clause d n f (a ++ b) e m g
handled_both Clause [] b d c e n k m f i g one two =
    subst (λ (x : Device). AreHandled Clause x n f b e m g) one.0
    (subst (λ (j : LibraryState). AreHandled Clause c j f b e m g) one.1 (subst (λ (j : ℕ). AreHandled Clause c k j b e m g) one.2 two))
handled_both Clause (Waited ∷ a) b d c e n k m f i g one two = handled_both Clause a b d c e n k m f i g one two
handled_both Clause (Took x ∷ a) b d c e n k m f i g one two =
    (one.0, one.1, one.2, one.3, one.4, one.5, handled_both Clause a b x.behind c e x.after k m x.disk_after i g one.6 two)

pub length_both : (a b : List Round) → length (a ++ b) ≡ length a + length b
length_both [] b = omega arith
length_both (r ∷ a) b = let e = length_both a b in omega (arith, e)

pub started_more : (S T : Handled → Type 0) → ((x : Handled) → S x → T x) → (a : List Round) → AreStarted S a → AreStarted T a
started_more S T more [] h = tt
started_more S T more (Waited ∷ a) h = started_more S T more a h
started_more S T more (Took x ∷ a) h = (more x h.0, started_more S T more a h.1)

pub started_both : (S : Handled → Type 0) (a b : List Round) → AreStarted S a → AreStarted S b → AreStarted S (a ++ b)
started_both S [] b one two = two
started_both S (Waited ∷ a) b one two = started_both S a b one two
started_both S (Took x ∷ a) b one two = (one.0, started_both S a b one.1 two)
