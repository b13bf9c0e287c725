-- What Spelling writes is read: the front, a state, a text, and from these each kind and the whole.
-- Assumes nothing.
use mathlib.Core.Path.{◌≡◌, refl, ap, ◌∙◌}
use mathlib.Core.Bool.{Bool, true, false}
use mathlib.Core.List.{List, [], ◌∷◌, ◌++◌, append-nil, append_assoc}
use Prim.Native.Nat.{ℕ, ◌+◌, ◌*◌, ◌-◌, ◌≤◌, ◌<◌}
use native.Mathlib.Omega.{arith}
use lib.ListN.{length, take, drop}
use lib.Seq.{take_at, drop_at}
use borrow.Author.Tests.{lt-ltb, le-leb, ne_eqb}
use Rattle.std.specs.Prelude.{Some}
use Rattle.laws.specs.Lists.{span}
use Rattle.laws.specs.Text.{text, same, spaced}
use Rattle.laws.proofs.Each.{none, more}
use Rattle.laws.proofs.Spaced.{trail, spaced_trail}
use Rattle.numbers.specs.Reading.{value_of}
use Rattle.numbers.specs.Spelling.{Digit}
use Rattle.numbers.proofs.Value.{digit_value, digit_below}
use Rattle.words.specs.Find.{index}
use Rattle.host_reader.specs.Spelling.{Verdict, Status, Warning, Bytes, Data, begun, End, Says}
use Rattle.host_reader.specs.Reading.{two_of, marks, verdicts, statuses, warnings, second, kind_at, front_in, state_in, data_byte, content_end, text_at, reply_in, alert_in, info_in, said_in, right_end, ended, read_message}
use Rattle.host_reader.specs.declared.State.{State}
use Rattle.host_reader.specs.declared.Text.{Text}
use Rattle.host_reader.specs.declared.Said.{Said}
use Rattle.host_reader.specs.declared.Said.TheVariants.{Reply, Alert, Info}
use Rattle.host_reader.specs.declared.Kind.{Kind}
use Rattle.host_reader.specs.declared.Kind.TheVariants as Kinds
use Rattle.host_reader.proofs.Spelled.{Known, Two, two, Four, four, verdict_read, verdict_two, verdict_bytes, status_read, status_four, status_bytes, warning_read, warning_two, warning_bytes, bytes_span, data_bytes, trail_bytes, end_span, end_read}

-- a line as far as the axis, byte by byte but for its mark, and s behind that
abbrev pub line_of : List ℕ → ℕ → ℕ → ℕ → List ℕ → List ℕ
line_of mark c b k s = mark ++ (c ∷ b ∷ 32 ∷ k ∷ s)

-- what is summed of it
abbrev pub body_of : ℕ → ℕ → ℕ → List (List ℕ) → List ℕ
body_of c b k ws = spaced ((c ∷ b ∷ []) ∷ (k ∷ []) ∷ ws)

pub body_is : (c b k : ℕ) (ws : List (List ℕ)) → body_of c b k ws ≡ c ∷ b ∷ 32 ∷ k ∷ trail ws
unfolding trail
body_is c b k ws = spaced_trail (c ∷ b ∷ []) ((k ∷ []) ∷ ws)

-- each mark is one byte
pub data One : List ℕ → Type 0 where
  one : {m : ℕ} → One (m ∷ [])

pub at_sign : One (text "@")
unfolding text
at_sign = one

pub bang : One (text "!")
unfolding text
bang = one

pub hash : One (text "#")
unfolding text
hash = one

pub front_size : {mark : List ℕ} (c b k : ℕ) (ws : List (List ℕ)) → One mark → length (mark ++ body_of c b k ws) ≡ 5 + length (trail ws)
front_size c b k ws one = rw (body_is c b k ws) (omega arith)

-- a word behind a space, and what stands behind it
word_then : (w : List ℕ) (ws : List (List ℕ)) (e : List ℕ) → trail (w ∷ ws) ++ e ≡ 32 ∷ (w ++ (trail ws ++ e))
unfolding trail
word_then w ws e = append_assoc (32 ∷ w) (trail ws) e

last_word : (w e : List ℕ) → trail (w ∷ []) ++ e ≡ 32 ∷ (w ++ e)
unfolding trail
last_word w e = append_assoc (32 ∷ w) [] e

-- ---- the front
two_digits : {c d t u : ℕ} → Digit 10 c t → Digit 10 d u → two_of (value_of c) (value_of d) ≡ Some (t * 10 + u)
two_digits {t = t} {u} x y = simp (
  digit_value (omega arith) x,
  digit_value (omega arith) y,
  lt-ltb t 10 (digit_below x),
  lt-ltb u 10 (digit_below y),
)

front_read : {mark : List ℕ} {kind : Kind} {c b k t u j : ℕ} (s : List ℕ) → One mark → kind_at (index mark marks) ≡ Some kind
    → Digit 10 c t → Digit 10 b u → 1 ≤ t * 10 + u → Digit 10 k j
    → front_in (line_of mark c b k s) ≡ Some (record { kind = kind; address = t * 10 + u; axis = j })
unfolding text same
front_read {t = t} {u} {j} s one is x y some z =
    rw (is, two_digits x y, digit_value (omega arith) z, le-leb 1 (t * 10 + u) some, lt-ltb j 10 (digit_below z))

-- ---- a state, with r behind it
state_found : {s w : List ℕ} {busy : Bool} {i : ℕ} (r : List ℕ) → Four s → Two w → second (index s statuses) ≡ Some busy
    → Known w i warnings 9 → state_in (s ++ (32 ∷ (w ++ r))) ≡ Some (record { busy = busy; warning = i })
unfolding text same
state_found {i = i} r four two b f = rw (b, f.place, lt-ltb i 9 f.below)

state_read : {s w : List ℕ} {busy : Bool} {i : ℕ} (r : List ℕ) → Status s busy → Warning w i
    → state_in (s ++ (32 ∷ (w ++ r))) ≡ Some (record { busy = busy; warning = i })
state_read r status warning = state_found r (status_four status) (warning_two warning) (status_read status) (warning_read warning)

-- ---- a text: it does not begin with a space
no_space_lem : {d : List ℕ} (e : List ℕ) → Data d → same (take 1 (d ++ e)) (text " ") ≡ false
unfolding text same
no_space_lem e (begun {c} w b) = rw (ne_eqb c 32 (λ (q : c ≡ 32). omega (arith, w.low)))

some_data : {d : List ℕ} → Data d → 0 < length d
some_data (begun w b) = omega arith

text_read : (l : List ℕ) (i end : ℕ) {d : List ℕ} (e : List ℕ) → Data d → drop i l ≡ d ++ e → end ≡ i + length d
    → text_at l i end ≡ Some (record { place = i; length = length d })
unfolding text
text_read l i end {d} e x behind size =
    let n : end - i ≡ length d = omega arith in
    rw (behind, n, no_space_lem e x, lt-ltb i end (omega (arith, some_data x)))

-- the lengths of the words of each kind, from the front of the line on
pub reply_size : {v s w : List ℕ} (d : List ℕ) → Two v → Four s → Two w → 5 + length (trail (v ∷ s ∷ w ∷ d ∷ [])) ≡ 17 + length d
unfolding trail
reply_size d two four two = rw (append-nil d) (omega arith)

pub alert_size : {s w : List ℕ} → Four s → Two w → 5 + length (trail (s ∷ w ∷ [])) ≡ 13
unfolding trail
alert_size four two = refl

pub info_size : (d : List ℕ) → 5 + length (trail (d ∷ [])) ≡ 6 + length d
unfolding trail
info_size d = rw (append-nil d) (omega arith)

-- ---- the kinds: each mark, and what is read of the words behind the axis, where e stands behind them
module _ (c b k : ℕ) where
  -- a reply, where t stands behind the space before its data
  abbrev reply_line : List ℕ → List ℕ → List ℕ → List ℕ → List ℕ
  reply_line v s w t = line_of (text "@") c b k (32 ∷ (v ++ (32 ∷ (s ++ (32 ∷ (w ++ (32 ∷ t)))))))

  reply_found : {v s w : List ℕ} {ok : Bool} {state : State} {words : Text} (t : List ℕ) (end : ℕ) → Two v → Four s → Two w
      → second (index v verdicts) ≡ Some ok → state_in (s ++ (32 ∷ (w ++ (32 ∷ t)))) ≡ Some state
      → text_at (reply_line v s w t) 17 end ≡ Some words → reply_in (reply_line v s w t) end ≡ Some (Reply ok state words)
  unfolding text same
  reply_found t end two four two o x y = rw (o, x, y)

  data_behind : {v s w : List ℕ} (t : List ℕ) → Two v → Four s → Two w → drop 17 (reply_line v s w t) ≡ t
  unfolding text
  data_behind t two four two = refl

  reply_place : {v s w : List ℕ} → Two v → Four s → Two w → length (text "@" ++ body_of c b k (v ∷ s ∷ w ∷ [] ∷ [])) ≡ 17
  reply_place {v} {s} {w} p q r = front_size c b k (v ∷ s ∷ w ∷ [] ∷ []) at_sign ∙ reply_size [] p q r

  reply_words : (v s w d e : List ℕ) → trail (v ∷ s ∷ w ∷ d ∷ []) ++ e ≡ 32 ∷ (v ++ (32 ∷ (s ++ (32 ∷ (w ++ (32 ∷ (d ++ e)))))))
  reply_words v s w d e =
      rw (word_then v (s ∷ w ∷ d ∷ []) e, word_then s (w ∷ d ∷ []) e, word_then w (d ∷ []) e, last_word d e)

  alert_words : (s w e : List ℕ) → trail (s ∷ w ∷ []) ++ e ≡ 32 ∷ (s ++ (32 ∷ (w ++ e)))
  alert_words s w e = rw (word_then s (w ∷ []) e, last_word w e)

  module _ {s w : List ℕ} {busy : Bool} {i : ℕ} (status : Status s busy) (warning : Warning w i) (e : List ℕ) where
    reply-said : {v d : List ℕ} {ok : Bool} → Verdict v ok → Data d
        → reply_in (line_of (text "@") c b k (trail (v ∷ s ∷ w ∷ d ∷ []) ++ e)) (5 + length (trail (v ∷ s ∷ w ∷ d ∷ [])))
        ≡ Some (Reply ok (record { busy = busy; warning = i })
        (record { place = length (text "@" ++ body_of c b k (v ∷ s ∷ w ∷ [] ∷ [])); length = length d }))
    reply-said {v} {d} verdict x =
        let p = verdict_two verdict in
        let q = status_four status in
        let r = warning_two warning in
        let t = text_read (reply_line v s w (d ++ e)) 17 (17 + length d) e x (data_behind (d ++ e) p q r) refl in
        rw (reply_words v s w d e, reply_size d p q r, reply_place p q r)
        (reply_found (d ++ e) (17 + length d) p q r (verdict_read verdict) (state_read (32 ∷ (d ++ e)) status warning) t)

    alert-said : alert_in (line_of (text "!") c b k (trail (s ∷ w ∷ []) ++ e)) (5 + length (trail (s ∷ w ∷ [])))
        ≡ Some (Alert (record { busy = busy; warning = i }))
    unfolding text same
    alert-said = rw (alert_words s w e, alert_size (status_four status) (warning_two warning), state_read e status warning)

  module _ (e : List ℕ) where
    info-said : {d : List ℕ} → Data d → info_in (line_of (text "#") c b k (trail (d ∷ []) ++ e)) (5 + length (trail (d ∷ [])))
        ≡ Some (Info (record { place = 6; length = length d }))
    unfolding text same
    info-said {d} x =
        rw (
          last_word d e,
          info_size d,
          ne_eqb (6 + length d) 5 (λ (q : 6 + length d ≡ 5). omega arith),
          text_read (line_of (text "#") c b k (32 ∷ (d ++ e))) 6 (6 + length d) e x refl refl,
        )

  pub record Heard (mark : List ℕ) (ws : List (List ℕ)) (said : Said) (e : List ℕ) : Type 0 where
    pub byte : One mark
    pub kind : Kind
    pub known : kind_at (index mark marks) ≡ Some kind
    pub printed : Bytes (trail ws)
    pub is : said_in (line_of mark c b k (trail ws ++ e)) kind (5 + length (trail ws)) ≡ Some said

  pub heard : {mark : List ℕ} {ws : List (List ℕ)} {said : Said} (e : List ℕ) → Says (c ∷ b ∷ []) (k ∷ []) mark ws said
      → Heard mark ws said e
  unfolding kind_at marks index text same trail spaced
  heard e (Says.reply verdict status warning x) =
      record {
        byte = at_sign;
        kind = Kinds.Reply;
        known = refl;
        printed = trail_bytes (more (verdict_bytes verdict) (more (status_bytes status) (more (warning_bytes warning)
            (more (data_bytes x) none))));
        is = reply-said status warning e verdict x;
      }
  heard e (Says.alert status warning) =
      record {
        byte = bang;
        kind = Kinds.Alert;
        known = refl;
        printed = trail_bytes (more (status_bytes status) (more (warning_bytes warning) none));
        is = alert-said status warning e;
      }
  heard e (Says.info x) =
      record { byte = hash; kind = Kinds.Info; known = refl; printed = trail_bytes (more (data_bytes x) none); is = info-said e x }
  heard e Says.empty = record { byte = hash; kind = Kinds.Info; known = refl; printed = trail_bytes none; is = refl }

-- ---- the whole
module _ {mark : List ℕ} {c b k t u j : ℕ} {ws : List (List ℕ)} {said : Said} {e : List ℕ} (x : Digit 10 c t) (y : Digit 10 b u)
    (some : 1 ≤ t * 10 + u) (z : Digit 10 k j) (h : Heard c b k mark ws said e) (end : End (body_of c b k ws) e) where
  abbrev l : List ℕ
  l = line_of mark c b k (trail ws ++ e)

  content : content_end l ≡ 5 + length (trail ws)
  content = go h.byte
    where
      go : {mark : List ℕ} → One mark → 5 + span data_byte (drop 5 (line_of mark c b k (trail ws ++ e))) ≡ 5 + length (trail ws)
      go one = ap (λ (n : ℕ). 5 + n) (bytes_span e h.printed (end_span end))

  right_end_lem : ended l (5 + length (trail ws)) ≡ true
  right_end_lem = go h.byte
    where
      go : {mark : List ℕ} → One mark → right_end (drop 1 (take (5 + length (trail ws)) (line_of mark c b k (trail ws ++ e))))
          (drop (5 + length (trail ws)) (line_of mark c b k (trail ws ++ e))) ≡ true
      go (one {m}) =
          let front = m ∷ c ∷ b ∷ 32 ∷ k ∷ trail ws in
          rw (take_at front e (5 + length (trail ws)) (omega arith), drop_at front e (5 + length (trail ws)) (omega arith))
          (rw (body_is c b k ws) at (end_read end))

  pub read_whole : length l ≤ 96 → read_message l ≡ Some (record { address = t * 10 + u; axis = j; said = said })
  read_whole short =
      let front = front_read (trail ws ++ e) h.byte h.known x y some z in
      rw (le-leb (length l) 96 short, front, content, h.is, right_end_lem)
