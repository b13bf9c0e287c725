-- Where a place is told with 11, a number's word of the command refuses there; where none is told, the words fit no row but for numbers.
-- Assumes nothing.
use Rattle.std.specs.Prelude.{Err, Ok}
use mathlib.Core.Path.{◌≡◌, refl}
use mathlib.Core.Logic.{◌⊎◌, inl, inr, ⊎_elim}
use mathlib.Core.Bool.{Bool, true, false, cond, not, ◌&&◌, ◌||◌}
use mathlib.Core.List.{List, [], ◌∷◌, ◌++◌}
use Prim.Native.Nat.{ℕ, suc, ◌+◌, ◌≤◌}
use native.Mathlib.Omega.{arith}
use lib.ListN.{length, take, drop}
use Rattle.laws.specs.Lists.{fold, any}
use Rattle.laws.specs.Refusals.{NOWHERE, in_byte}
use Rattle.laws.proofs.Bools.{and_left, and_right, clash}
use Rattle.laws.proofs.Each.{OneOf, first, later}
use Rattle.laws.proofs.Order.{lt_or_le}
use Rattle.numbers.specs.Place.{ANumber, Begins, LongestFront}
use Rattle.numbers.specs.Reading.{read_number, NumberRead}
use Rattle.numbers.proofs.Places.{number_refused}
use Rattle.words.specs.Cutting.{Placed, bytes_of}
use Rattle.command.specs.Commands.{Place, word, SETTING, WRITABLE, N, P, Row, table, any_words}
use Rattle.phrase.specs.Refusals.{is_number, stands, begin_so, just_so, fits, bad_data}
use Rattle.phrase.specs.Place.{number_due, other_words_fit, or_else, first_refused, places, place_among, words_place}

-- One of the words is no W and refuses at the place p: the bytes of it before p begin some W; with the byte at p they begin none, or
-- the word ended too soon.
pub record WrongAt (W : List ℕ → Type 0) (ws : List Placed) (p : ℕ) : Type 0 where
  pub word : Placed
  pub of : OneOf word ws
  pub none : W word.bytes → ⊥
  pub before : ℕ
  pub place : p ≡ in_byte (word.start + before)
  pub inside : before ≤ length word.bytes
  pub begins : Begins W (take before word.bytes)
  pub no_more : (before ≡ length word.bytes) ⊎ (Begins W (take (suc before) word.bytes) → ⊥)

pub wrong_there : {W : List ℕ → Type 0} {ws : List Placed} {w : Placed} {p : ℕ} → OneOf w ws → (W w.bytes → ⊥)
    → LongestFront W w.bytes p → WrongAt W ws (in_byte (w.start + p))
wrong_there {w = w} {p = p} o n f = record {
  word = w;
  of = o;
  none = n;
  before = p;
  place = refl;
  inside = f.inside;
  begins = f.begins;
  no_more = ⊎_elim (λ l. inr (λ b. omega (arith, f.longest (suc p) (omega arith) b))) (λ l. inl (omega (arith, f.inside)))
      (lt_or_le p (length w.bytes));
}

pub wrong_of : {W : List ℕ → Type 0} {vs ws : List Placed} {p : ℕ} → ((w : Placed) → OneOf w vs → OneOf w ws) → WrongAt W vs p
    → WrongAt W ws p
wrong_of f x = record {
  word = x.word;
  of = f x.word x.of;
  none = x.none;
  before = x.before;
  place = x.place;
  inside = x.inside;
  begins = x.begins;
  no_more = x.no_more;
}

-- ---- one row
due_number : (p : Place) (w : List ℕ) → number_due p w ≡ true → stands p w ≡ is_number (read_number w)
due_number (word v) w e = clash e refl
due_number SETTING w e = clash e refl
due_number WRITABLE w e = clash e refl
due_number N w e = refl
due_number P w e = refl

abbrev RowTold : List Place → List Placed → ℕ → Type 0
RowTold ps ws p = ((just_so ps (bytes_of ws) ≡ true) × (p ≡ NOWHERE)) ⊎ WrongAt ANumber ws p

-- the words of a row whose other words fit are just its words, or one of its numbers is none
row_wrong : (ps : List Place) (ws : List Placed) → other_words_fit ps ws ≡ true → RowTold ps ws (first_refused ps ws)
unfolding other_words_fit first_refused just_so
row_wrong [] [] e = inl (refl, refl)
row_wrong [] (w ∷ ws) e = clash e refl
row_wrong (p ∷ ps) [] e = clash e refl
row_wrong (p ∷ ps) (w ∷ ws) e =
    let here = number_due p w.bytes || stands p w.bytes in
    go (number_due p w.bytes) refl (and_left here (other_words_fit ps ws) e) (row_wrong ps ws (and_right here (other_words_fit ps ws) e))
  where
    -- the word stands at its place: the others tell
    right : {q : ℕ} → stands p w.bytes ≡ true → RowTold ps ws q
        → ((stands p w.bytes && just_so ps (bytes_of ws) ≡ true) × (q ≡ NOWHERE)) ⊎ WrongAt ANumber (w ∷ ws) q
    right s told = ⊎_elim (λ t. inl (rw (s, t.0) refl, t.1)) (λ x. inr (wrong_of (λ v o. later o) x)) told

    by : (r : NumberRead) → read_number w.bytes ≡ r → stands p w.bytes ≡ is_number r → RowTold ps ws (first_refused ps ws)
        → ((stands p w.bytes && just_so ps (bytes_of ws) ≡ true) × (or_else w.start r (first_refused ps ws) ≡ NOWHERE))
        ⊎ WrongAt ANumber (w ∷ ws) (or_else w.start r (first_refused ps ws))
    by (Ok n) q s told = right s told
    by (Err k) q s told = let x = (number_refused w.bytes k).0 q in inr (wrong_there first x.0 x.1)

    go : (b : Bool) → number_due p w.bytes ≡ b → (b || stands p w.bytes) ≡ true → RowTold ps ws (first_refused ps ws)
        → ((stands p w.bytes && just_so ps (bytes_of ws) ≡ true)
        × (cond b (or_else w.start (read_number w.bytes) (first_refused ps ws)) (first_refused ps ws) ≡ NOWHERE))
        ⊎ WrongAt ANumber (w ∷ ws) (cond b (or_else w.start (read_number w.bytes) (first_refused ps ws)) (first_refused ps ws))
    go true d s told = by (read_number w.bytes) refl (due_number p w.bytes d) told
    go false d s told = right s told

-- ---- the table
-- whether a row is the words' own: as many words, and the other words all fit
abbrev pub its_row : List Placed → Row → Bool
its_row ws r = other_words_fit (places r) ws

just_begins : (front behind : List Place) (ws : List (List ℕ)) → just_so (front ++ behind) ws ≡ true
    → (begin_so front ws ≡ true) × (just_so behind (drop (length front) ws) ≡ true)
unfolding just_so begin_so
just_begins [] behind ws e = (refl, e)
just_begins (p ∷ ps) behind [] e = clash e refl
just_begins (p ∷ ps) behind (w ∷ ws) e =
    let rest = just_begins ps behind ws (and_right (stands p w) (just_so (ps ++ behind) ws) e) in
    (rw (and_left (stands p w) (just_so (ps ++ behind) ws) e, rest.0) refl, rest.1)

or_true : (b : Bool) → (b || true) ≡ true
or_true true = refl
or_true false = refl

just_fits : (r : Row) (ws : List (List ℕ)) → just_so (places r) ws ≡ true → fits ws r ≡ true
just_fits r ws e = let x = just_begins r.front r.behind ws e in rw (x.0, x.1) (or_true (any_words r))

abbrev TableTold : List Row → List Placed → Type 0
TableTold rs ws = WrongAt ANumber ws (place_among rs ws) ⊎ ((place_among rs ws ≡ NOWHERE) × (any (its_row ws) rs ≡ false))

rows_wrong : (rs : List Row) (ws : List Placed) → any (fits (bytes_of ws)) rs ≡ false → TableTold rs ws
unfolding place_among fold
rows_wrong [] ws e = inr (refl, refl)
rows_wrong (r ∷ rs) ws e = go (its_row ws r) refl (fits (bytes_of ws) r) refl e (rows_wrong rs ws)
  where
    go : (b : Bool) → its_row ws r ≡ b → (f : Bool) → fits (bytes_of ws) r ≡ f → (f || any (fits (bytes_of ws)) rs) ≡ false
        → (any (fits (bytes_of ws)) rs ≡ false → TableTold rs ws)
        → WrongAt ANumber ws (cond b (first_refused (places r) ws) (place_among rs ws))
        ⊎ ((cond b (first_refused (places r) ws) (place_among rs ws) ≡ NOWHERE) × ((b || any (its_row ws) rs) ≡ false))
    go b q true s e rest = clash refl e
    go true q false s e rest = ⊎_elim (λ t. clash (just_fits r (bytes_of ws) t.0) s) (λ x. inl x) (row_wrong (places r) ws q)
    go false q false s e rest = rest e

-- Words that are refused with 11: a number's word of them refuses at the place that is told, or none is told and no row is theirs.
pub words_wrong : (ws : List Placed) → bad_data (bytes_of ws) ≡ true
    → WrongAt ANumber ws (words_place ws) ⊎ ((words_place ws ≡ NOWHERE) × (any (its_row ws) table ≡ false))
unfolding bad_data words_place
words_wrong [] e = clash e refl
words_wrong (w ∷ ws) e = rows_wrong table (w ∷ ws) (go (any (fits (bytes_of (w ∷ ws))) table) e)
  where
    go : (b : Bool) → not b ≡ true → b ≡ false
    go true e = clash e refl
    go false e = refl
