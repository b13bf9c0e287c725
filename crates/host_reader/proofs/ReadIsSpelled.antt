-- What is read is what Spelling writes: the front, a state, a text, and from these each kind and the whole.
-- Assumes nothing.
use mathlib.Core.Path.{◌≡◌, refl, sym, ap, subst, ◌∙◌}
use mathlib.Core.Bool.{Bool, true, false, cond, not, ◌&&◌}
use mathlib.Core.List.{List, [], ◌∷◌, ◌++◌, append-nil}
use Prim.Native.Nat.{ℕ, zero, suc, ◌+◌, ◌*◌, ◌-◌, ◌≤◌, ◌<◌}
use native.Mathlib.Omega.{arith}
use lib.Dec.{eqb, ltb, leb}
use lib.ListN.{length, get_or, take, drop, take-append-drop, length-drop}
use lib.Seq.{length-take-le, take-add, drop-drop}
use borrow.Author.Tests.{eq-eqb, ltb-true, leb-true, eqb-true, not-true}
use Rattle.std.specs.Prelude.{Option, Some, option_and_then}
use Rattle.std.specs.Bool.{then_some}
use Rattle.laws.specs.Lists.{span}
use Rattle.laws.specs.Text.{text, same, spaced}
use Rattle.laws.proofs.Bools.{and_left, and_right, clash}
use Rattle.laws.proofs.Same.{same_true}
use Rattle.laws.proofs.Span.{span_le, span_yes, span_not, span_none}
use Rattle.laws.proofs.Spaced.{trail}
use Rattle.numbers.specs.Reading.{value_of}
use Rattle.numbers.proofs.Value.{digit_of}
use Rattle.words.specs.Find.{index}
use Rattle.host_reader.specs.Spelling.{Address, Axis, Status, Warning, Data, End, Says}
use Rattle.host_reader.specs.Spelling as spelling
use Rattle.host_reader.specs.Reading.{stands, two_of, marks, second, kind_at, mark_in, address_in, axis_in, front_in, status_in, warning_in, state_in, data_byte, content_end, text_at, verdict_in, reply_in, alert_in, info_in, said_in, ended, message_in}
use Rattle.host_reader.specs.declared.Text.{Text}
use Rattle.host_reader.specs.declared.State.{State}
use Rattle.host_reader.specs.declared.Said.{Said}
use Rattle.host_reader.specs.declared.Said.TheVariants.{Reply, Alert, Info}
use Rattle.host_reader.specs.declared.Message.{Message}
use Rattle.host_reader.specs.declared.Kind.{Kind}
use Rattle.host_reader.specs.declared.Kind.TheVariants as Kinds
use Rattle.host_reader.specs.declared.Front.{Front}
use Rattle.host_reader.proofs.Options.{then_is, bind_is}
use Rattle.host_reader.proofs.Spelled.{at_place, verdict_of, status_of, warning_of, data_of, end_of, end_some}
use Rattle.host_reader.proofs.SpelledIsRead.{body_of, body_is}

-- a list of n bytes at least, the first n of them apart
data Long : ℕ → List ℕ → Type 0 where
  enough : {l : List ℕ} → Long 0 l
  more : {n c : ℕ} {l : List ℕ} → Long n l → Long (suc n) (c ∷ l)

long : (n : ℕ) (l : List ℕ) → n ≤ length l → Long n l
long zero l h = enough
long (suc n) [] h = absurd (omega arith)
long (suc n) (c ∷ l) h = more (long n l (omega arith))

-- a byte stands where its text does
byte_is : (c m : ℕ) → same (c ∷ []) (m ∷ []) ≡ true → c ≡ m
byte_is c m t = ap (λ (l : List ℕ). get_or l 0 0) (same_true (c ∷ []) (m ∷ []) t)

-- what a test passes from a place on
span_from : (p : ℕ → Bool) (k : ℕ) (s : List ℕ) → k ≤ span p s → span p s ≡ k + span p (drop k s)
span_from p zero s h = omega arith
span_from p (suc k) [] h = absurd (omega (arith, span_none p))
span_from p (suc k) (c ∷ s) h = go (p c) refl (span_from p k s)
  where
    go : (t : Bool) → p c ≡ t → (k ≤ span p s → span p s ≡ k + span p (drop k s)) → span p (c ∷ s) ≡ suc k + span p (drop k s)
    go true q ih = let y = span_yes p c s q in let z = ih (omega arith) in omega arith
    go false q ih = absurd (omega (arith, span_not p c s q))

-- ---- the front
two_some : (t u : ℕ) {n : ℕ} → two_of t u ≡ Some n → (t < 10) × (u < 10) × (t * 10 + u ≡ n)
two_some t u e =
    let h = then_is (ltb t 10 && ltb u 10) e in
    (ltb-true t 10 (and_left _ _ h.0), ltb-true u 10 (and_right (ltb t 10) _ h.0), h.1)

record FrontOf (m c b g k : ℕ) (f : Front) : Type 0 where
  kind : kind_at (index (m ∷ []) marks) ≡ Some f.kind
  address : Address (c ∷ b ∷ []) f.address
  space : g ≡ 32
  axis : Axis (k ∷ []) f.axis

front_of : (m c b g k : ℕ) (s : List ℕ) {f : Front} → front_in (m ∷ c ∷ b ∷ g ∷ k ∷ s) ≡ Some f → FrontOf m c b g k f
unfolding text
front_of m c b g k s e =
    let l = m ∷ c ∷ b ∷ g ∷ k ∷ s in
    let x = bind_is (kind_at (mark_in l)) _ e in
    let y = bind_is (address_in l) _ x.2 in
    let z = then_is (leb 1 y.0 && stands l 3 (text " ") && ltb (axis_in l) 10) y.2 in
    let digits = two_some (value_of c) (value_of b) y.1 in
    let both = and_left (leb 1 y.0 && stands l 3 (text " ")) (ltb (axis_in l) 10) z.0 in
    let some = leb-true 1 y.0 (and_left (leb 1 y.0) (stands l 3 (text " ")) both) in
    rw z.1 at (let f : FrontOf m c b g k (record { kind = x.0; address = y.0; axis = axis_in l }) = record {
      kind = x.1;
      address = rw digits.2 at
          (Address.two (digit_of 10 c (omega arith) digits.0) (digit_of 10 b (omega arith) digits.1) (rw (← digits.2) at some));
      space = byte_is g 32 (and_right (leb 1 y.0) (stands l 3 (text " ")) both);
      axis = Axis.one (digit_of 10 k (omega arith)
          (ltb-true (axis_in l) 10 (and_right (leb 1 y.0 && stands l 3 (text " ")) (ltb (axis_in l) 10) z.0)));
    } in f)

-- ---- a state
record StateOf (a b c d g e f : ℕ) (x : State) : Type 0 where
  status : Status (a ∷ b ∷ c ∷ d ∷ []) x.busy
  space : g ≡ 32
  warning : Warning (e ∷ f ∷ []) x.warning

state_of_lem : (a b c d g e f : ℕ) (r : List ℕ) {x : State} → state_in (a ∷ b ∷ c ∷ d ∷ g ∷ e ∷ f ∷ r) ≡ Some x → StateOf a b c d g e f x
unfolding text
state_of_lem a b c d g e f r h =
    let s = a ∷ b ∷ c ∷ d ∷ g ∷ e ∷ f ∷ r in
    let y = bind_is (second (status_in s)) _ h in
    let z = then_is (stands s 4 (text " ") && ltb (warning_in s) 9) y.2 in
    rw z.1 at (let x : StateOf a b c d g e f (record { busy = y.0; warning = warning_in s }) = record {
      status = status_of (a ∷ b ∷ c ∷ d ∷ []) y.1;
      space = byte_is g 32 (and_left (stands s 4 (text " ")) (ltb (warning_in s) 9) z.0);
      warning = warning_of (e ∷ f ∷ [])
          (ltb-true (warning_in s) 9 (and_right (stands s 4 (text " ")) (ltb (warning_in s) 9) z.0));
    } in x)

-- ---- a text: from place i of a line, which is place k of what stands behind the axis
not_space : (r : List ℕ) → same (take 1 r) (text " ") ≡ false → get_or r 0 0 ≡ 32 → ⊥
unfolding same text
not_space [] t e = omega arith
not_space (c ∷ r) t e = clash (rw (eq-eqb c 32 e)) t

abbrev printed : List ℕ → List ℕ
printed r = take (span data_byte r) r

record TextOf (s : List ℕ) (i k : ℕ) (t : Text) : Type 0 where
  size : span data_byte s ≡ k + span data_byte (drop k s)
  said : Data (printed (drop k s))
  is : t ≡ record { place = i; length = length (printed (drop k s)) }

text_of : (l s : List ℕ) (i k : ℕ) {t : Text} → drop i l ≡ drop k s → i ≡ 5 + k → text_at l i (5 + span data_byte s) ≡ Some t → TextOf s i k t
unfolding text
text_of l s i k behind place e =
    let end = 5 + span data_byte s in
    let h = then_is (ltb i end && not (stands l i (text " "))) e in
    let some : i < end = ltb-true i end (and_left (ltb i end) (not (stands l i (text " "))) h.0) in
    let begins = rw behind at (not-true (stands l i (text " ")) (and_right (ltb i end) (not (stands l i (text " "))) h.0)) in
    let size : span data_byte s ≡ k + span data_byte (drop k s) = span_from data_byte k s (omega arith) in
    let n : length (printed (drop k s)) ≡ span data_byte (drop k s) = length-take-le _ (drop k s) (span_le data_byte (drop k s)) in
    let length-is : end - i ≡ length (printed (drop k s)) = omega arith in
    record { size = size; said = data_of (drop k s) (omega arith) (not_space (drop k s) begins); is = rw length-is at (sym h.1) }

-- a text ends behind its place
text_some : (l : List ℕ) (i end : ℕ) {t : Text} → text_at l i end ≡ Some t → i < end
text_some l i end e =
    let h = then_is (ltb i end && not (stands l i (text " "))) e in
    ltb-true i end (and_left (ltb i end) (not (stands l i (text " "))) h.0)

-- ---- the kinds: words that stand behind the axis as far as bytes of texts go, and are written for what is said
record Spoken (m c b k : ℕ) (s : List ℕ) (said : Said) : Type 0 where
  words : List (List ℕ)
  stand : trail words ≡ printed s
  says : Says (c ∷ b ∷ []) (k ∷ []) (m ∷ []) words said

reply_stands : (g0 v0 v1 g1 s0 s1 s2 s3 g2 w0 w1 g3 : ℕ) (r : List ℕ) (n : ℕ) → g0 ≡ 32 → g1 ≡ 32 → g2 ≡ 32 → g3 ≡ 32
    → trail ((v0 ∷ v1 ∷ []) ∷ (s0 ∷ s1 ∷ s2 ∷ s3 ∷ []) ∷ (w0 ∷ w1 ∷ []) ∷ take n r ∷ [])
    ≡ take (12 + n) (g0 ∷ v0 ∷ v1 ∷ g1 ∷ s0 ∷ s1 ∷ s2 ∷ s3 ∷ g2 ∷ w0 ∷ w1 ∷ g3 ∷ r)
unfolding trail
reply_stands g0 v0 v1 g1 s0 s1 s2 s3 g2 w0 w1 g3 r n e0 e1 e2 e3 =
    rw (take-add 12 n (g0 ∷ v0 ∷ v1 ∷ g1 ∷ s0 ∷ s1 ∷ s2 ∷ s3 ∷ g2 ∷ w0 ∷ w1 ∷ g3 ∷ r), e0, e1, e2, e3, append-nil (take n r))

alert_stands : (g0 s0 s1 s2 s3 g1 w0 w1 : ℕ) (r : List ℕ) (n : ℕ) → n ≡ 8 → g0 ≡ 32 → g1 ≡ 32
    → trail ((s0 ∷ s1 ∷ s2 ∷ s3 ∷ []) ∷ (w0 ∷ w1 ∷ []) ∷ []) ≡ take n (g0 ∷ s0 ∷ s1 ∷ s2 ∷ s3 ∷ g1 ∷ w0 ∷ w1 ∷ r)
unfolding trail
alert_stands g0 s0 s1 s2 s3 g1 w0 w1 r n e e0 e1 = rw (e, e0, e1)

info_stands : (g : ℕ) (r : List ℕ) (n : ℕ) → g ≡ 32 → trail (take n r ∷ []) ≡ take (1 + n) (g ∷ r)
unfolding trail
info_stands g r n e = rw (take-add 1 n (g ∷ r), e, append-nil (take n r))

none_stands : (s : List ℕ) (n : ℕ) → n ≡ 0 → trail [] ≡ take n s
unfolding trail
none_stands s n e = rw e

module _ (c b k : ℕ) where
  abbrev line_by : ℕ → List ℕ → List ℕ
  line_by m s = m ∷ c ∷ b ∷ 32 ∷ k ∷ s

  reply_long : {s : List ℕ} {said : Said} → Long 12 s → reply_in (line_by 64 s) (5 + span data_byte s) ≡ Some said → Spoken 64 c b k s said
  unfolding text spaced
  reply_long (more {c = g0} (more {c = v0} (more {c = v1} (more {c = g1} (more {c = s0} (more {c = s1} (more {c = s2} (more {c = s3}
      (more {c = g2} (more {c = w0} (more {c = w1} (more {c = g3} (enough {l = r}))))))))))))) e =
      let s = g0 ∷ v0 ∷ v1 ∷ g1 ∷ s0 ∷ s1 ∷ s2 ∷ s3 ∷ g2 ∷ w0 ∷ w1 ∷ g3 ∷ r in
      let l = line_by 64 s in
      let x = bind_is (second (verdict_in l)) _ e in
      let y = bind_is (state_in (drop 9 l)) _ x.2 in
      let z = bind_is (text_at l 17 (5 + span data_byte s)) _ y.2 in
      let h = then_is (stands l 5 (text " ") && stands l 8 (text " ") && stands l 16 (text " ")) z.2 in
      let both = and_left (stands l 5 (text " ") && stands l 8 (text " ")) (stands l 16 (text " ")) h.0 in
      let state = state_of_lem s0 s1 s2 s3 g2 w0 w1 (g3 ∷ r) y.1 in
      let words = text_of l s 17 12 refl refl z.1 in
      rw h.1 at (let p : Spoken 64 c b k s (Reply x.0 y.0 z.0) = record {
        words = (v0 ∷ v1 ∷ []) ∷ (s0 ∷ s1 ∷ s2 ∷ s3 ∷ []) ∷ (w0 ∷ w1 ∷ []) ∷ printed r ∷ [];
        stand = rw words.size (reply_stands g0 v0 v1 g1 s0 s1 s2 s3 g2 w0 w1 g3 r (span data_byte r)
            (byte_is g0 32 (and_left (stands l 5 (text " ")) (stands l 8 (text " ")) both))
            (byte_is g1 32 (and_right (stands l 5 (text " ")) (stands l 8 (text " ")) both)) state.space
            (byte_is g3 32 (and_right (stands l 5 (text " ") && stands l 8 (text " ")) (stands l 16 (text " ")) h.0)));
        says = rw words.is (Says.reply (verdict_of (v0 ∷ v1 ∷ []) x.1) state.status state.warning words.said);
      } in p)

  alert_long : {s : List ℕ} {said : Said} → Long 8 s → alert_in (line_by 33 s) (5 + span data_byte s) ≡ Some said → Spoken 33 c b k s said
  unfolding text spaced
  alert_long (more {c = g0} (more {c = s0} (more {c = s1} (more {c = s2} (more {c = s3} (more {c = g1} (more {c = w0} (more {c = w1}
      (enough {l = r}))))))))) e =
      let s = g0 ∷ s0 ∷ s1 ∷ s2 ∷ s3 ∷ g1 ∷ w0 ∷ w1 ∷ r in
      let l = line_by 33 s in
      let end = 5 + span data_byte s in
      let x = bind_is (state_in (drop 6 l)) _ e in
      let h = then_is (stands l 5 (text " ") && eqb end 13) x.2 in
      let size = eqb-true end 13 (and_right (stands l 5 (text " ")) (eqb end 13) h.0) in
      let state = state_of_lem s0 s1 s2 s3 g1 w0 w1 r x.1 in
      rw h.1 at (let p : Spoken 33 c b k s (Alert x.0) = record {
        words = (s0 ∷ s1 ∷ s2 ∷ s3 ∷ []) ∷ (w0 ∷ w1 ∷ []) ∷ [];
        stand = alert_stands g0 s0 s1 s2 s3 g1 w0 w1 r (span data_byte s) (omega arith)
            (byte_is g0 32 (and_left (stands l 5 (text " ")) (eqb end 13) h.0)) state.space;
        says = Says.alert state.status state.warning;
      } in p)

  abbrev text_told : List ℕ → Option Said
  text_told s =
      option_and_then (λ t. then_some (stands (line_by 35 s) 5 (text " ")) (Info t)) (text_at (line_by 35 s) 6 (5 + span data_byte s))

  info_long : {s : List ℕ} {said : Said} → Long 1 s → text_told s ≡ Some said → Spoken 35 c b k s said
  unfolding text spaced
  info_long (more {c = g} (enough {l = r})) e =
      let s = g ∷ r in
      let l = line_by 35 s in
      let x = bind_is (text_at l 6 (5 + span data_byte s)) _ e in
      let h = then_is (stands l 5 (text " ")) x.2 in
      let words = text_of l s 6 1 refl refl x.1 in
      rw h.1 at (let p : Spoken 35 c b k s (Info x.0) = record {
        words = printed r ∷ [];
        stand = rw words.size (info_stands g r (span data_byte r) (byte_is g 32 h.0));
        says = rw words.is (Says.info words.said);
      } in p)

  module _ (s : List ℕ) where
    abbrev end : ℕ
    end = 5 + span data_byte s

    enough_for : (n : ℕ) → n ≤ span data_byte s → Long n s
    enough_for n h = long n s (omega (arith, span_le data_byte s))

    -- what a kind's reading says of a line with this mark
    abbrev Given : (List ℕ → ℕ → Option Said) → ℕ → Type 0
    Given f m = (said : Said) → f (line_by m s) end ≡ Some said → Spoken m c b k s said

    reply_of_lem : Given reply_in 64
    reply_of_lem said e =
        let l = line_by 64 s in
        let x = bind_is (second (verdict_in l)) _ e in
        let y = bind_is (state_in (drop 9 l)) _ x.2 in
        let z = bind_is (text_at l 17 end) _ y.2 in
        let some = text_some l 17 end z.1 in
        reply_long (enough_for 12 (omega arith)) e

    alert_of_lem : Given alert_in 33
    alert_of_lem said e =
        let l = line_by 33 s in
        let x = bind_is (state_in (drop 6 l)) _ e in
        let h = then_is (stands l 5 (text " ") && eqb end 13) x.2 in
        let size = eqb-true end 13 (and_right (stands l 5 (text " ")) (eqb end 13) h.0) in
        alert_long (enough_for 8 (omega arith)) e

    text_info : (said : Said) → text_told s ≡ Some said → Spoken 35 c b k s said
    text_info said e =
        let x = bind_is (text_at (line_by 35 s) 6 end) _ e in
        let some = text_some (line_by 35 s) 6 end x.1 in
        info_long (enough_for 1 (omega arith)) e

    -- no text, or one
    abbrev told : Bool → Option Said
    told y = cond y (Some (Info (record { place = 5; length = 0 }))) (text_told s)

    info_of : Given info_in 35
    unfolding text spaced
    info_of said e = go (eqb end 5) refl said e
      where
        go : (y : Bool) → eqb end 5 ≡ y → (said : Said) → told y ≡ Some said → Spoken 35 c b k s said
        go true q said e = let z = eqb-true end 5 q in
            rw (let i : Info (record { place = 5; length = 0 }) ≡ said = cc in i) at (let p : Spoken 35 c b k s (Info (record { place = 5; length = 0 })) =
            record { words = []; stand = none_stands s (span data_byte s) (omega arith); says = Says.empty } in p)
        go false q said e = text_info said e

    -- by the mark
    kind_of_lem : (m : ℕ) {kind : Kind} → kind_at (index (m ∷ []) marks) ≡ Some kind → Given (λ l n. said_in l kind n) m
    unfolding kind_at marks text
    kind_of_lem m {kind} is said e = go (index (m ∷ []) marks) (λ h. at_place marks (m ∷ []) h) kind is said e
      where
        first : {x y : ℕ} → x ∷ [] ≡ y ∷ [] → y ≡ x
        first e = sym (ap (λ (z : List ℕ). get_or z 0 0) e)

        go : (j : ℕ) → (j < 3 → (m ∷ []) ≡ get_or marks j []) → (kind : Kind) → kind_at j ≡ Some kind → Given (λ l n. said_in l kind n) m
        go zero at kind is said e = subst (Given reply_in) (first (at (omega arith))) reply_of_lem said (rw (let q : kind ≡ Kinds.Reply = cc in q) at e)
        go (suc zero) at kind is said e = subst (Given alert_in) (first (at (omega arith))) alert_of_lem said (rw (let q : kind ≡ Kinds.Alert = cc in q) at e)
        go (suc (suc zero)) at kind is said e = subst (Given info_in) (first (at (omega arith))) info_of said (rw (let q : kind ≡ Kinds.Info = cc in q) at e)
        go (suc (suc (suc j))) at kind is said e = cc

-- ---- the whole
composed : (m c b k : ℕ) (s : List ℕ) {n j : ℕ} {said : Said} → Address (c ∷ b ∷ []) n → Axis (k ∷ []) j → Spoken m c b k s said
    → End (c ∷ b ∷ 32 ∷ k ∷ printed s) (drop (span data_byte s) s) → length (line_by c b k m s) ≤ 96
    → spelling.Message (line_by c b k m s) (record { address = n; axis = j; said = said })
composed m c b k s {n} {j} {said} address axis x ends short =
    let body : body_of c b k x.words ≡ c ∷ b ∷ 32 ∷ k ∷ printed s = body_is c b k x.words
    ∙ ap (λ (t : List ℕ). c ∷ b ∷ 32 ∷ k ∷ t) x.stand in
    let line : (m ∷ []) ++ body_of c b k x.words ++ drop (span data_byte s) s ≡ line_by c b k m s
    = rw (body, take-append-drop (span data_byte s) s) in
    let small = subst (λ (t : List ℕ). length t ≤ 96) (sym line) short in
    subst (λ (t : List ℕ). spelling.Message t (record { address = n; axis = j; said = said })) line
    (spelling.message {e = drop (span data_byte s) s} address axis x.says (rw body ends) small)

parted : (m c b k : ℕ) (s : List ℕ) {h : Message} → let l = line_by c b k m s in length l ≤ 96 → message_in l ≡ Some h → spelling.Message l h
parted m c b k s short e =
    let l = line_by c b k m s in
    let n = span data_byte s in
    let x = bind_is (front_in l) _ e in
    let y = bind_is (said_in l x.0.kind (content_end l)) _ x.2 in
    let z = then_is (ended l (content_end l)) y.2 in
    let f = front_of m c b 32 k s x.1 in
    let ends = end_of (drop 1 (take (5 + n) l)) (drop (5 + n) l) z.0 in
    rw z.1 at (composed m c b k s f.address f.axis (kind_of_lem c b k s m f.kind y.0 y.1) (rw (take-add 5 n l, ← drop-drop n 5 l) at ends) short)

-- the byte between address and axis is a space
five : {l : List ℕ} {h : Message} → Long 5 l → length l ≤ 96 → message_in l ≡ Some h → spelling.Message l h
five {h = h} (more {c = m} (more {c = c} (more {c = b} (more {c = g} (more {c = k} (enough {l = s})))))) short e =
    let x = bind_is (front_in (m ∷ c ∷ b ∷ g ∷ k ∷ s)) _ e in
    let f = front_of m c b g k s x.1 in
    subst (λ (x : ℕ). length (m ∷ c ∷ b ∷ x ∷ k ∷ s) ≤ 96 → message_in (m ∷ c ∷ b ∷ x ∷ k ∷ s) ≡ Some h
    → spelling.Message (m ∷ c ∷ b ∷ x ∷ k ∷ s) h) (sym f.space) (parted m c b k s) short e

pub read_spelled : (l : List ℕ) {h : Message} → length l ≤ 96 → message_in l ≡ Some h → spelling.Message l h
read_spelled l short e =
    let n = content_end l in
    let x = bind_is (front_in l) _ e in
    let y = bind_is (said_in l x.0.kind n) _ x.2 in
    let z = then_is (ended l n) y.2 in
    let ends = end_of (drop 1 (take n l)) (drop n l) z.0 in
    five (long 5 l (omega (arith, end_some ends, length-drop n l))) short e
