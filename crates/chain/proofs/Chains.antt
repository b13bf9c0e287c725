-- The walk over the records comes to what specs/Chain.antt says: each record is answered as if it heard the line alone.
-- Assumes nothing.
use Rattle.std.specs.Prelude.{Ok, Err, Result, is_ok, is_err}
use Rattle.laws.specs.declared.Refusal.TheVariants.{NoRoom, BadState}
use Rattle.laws.specs.declared.RefusedAt.{RefusedAt}
use Rattle.laws.specs.declared.Refusal.{Refusal}
use mathlib.Core.Path.{◌≡◌, refl, sym, ap, subst⁻¹, ◌∙◌}
use mathlib.Core.Bool.{Bool, true, false, cond, not, ◌&&◌}
use mathlib.Core.List.{List, [], ◌∷◌, ◌++◌, map, append_assoc}
use Prim.Native.Nat.{ℕ, ◌+◌, ◌*◌, ◌<◌, ◌≤◌}
use native.Mathlib.Omega.{arith}
use native.Mathlib.Nat.{zero-add, add-zero, add_assoc, mul-le-mul}
use lib.Dec.{eqb, ltb}
use lib.ListN.{length, take, drop, length-append, length-drop, take-append-drop}
use lib.Seq.{take_at, drop_at, drop-drop, length-take-le}
use borrow.Author.Tests.{eqb-false, eq-eqb, ne_eqb, ltb-false, lt-ltb, le-ltb}
use Rattle.laws.specs.Lists.{fold, all}
use Rattle.laws.specs.Refusals.{first_of, refusal_at, Verdict, ACCEPTED}
use Rattle.laws.proofs.Bools.{and_left, and_right, not_false}
use Rattle.laws.proofs.Refusals.{unmet, below}
use Rattle.phrase.specs.Reading.{WordsRead}
use Rattle.line.specs.Reading.{LineRead, read_line, sent}
use Rattle.line.specs.declared.Opening.{Opening}
use Rattle.line.specs.Opening.{open_line, read_on}
use Rattle.line.proofs.Opened.{opened_read}
use Rattle.device.specs.declared.Device.{Device}
use Rattle.device.specs.Good.{good}
use Rattle.reply.specs.Help.{longest_answer}
use Rattle.reply.specs.Reply.{joined}
use Rattle.carriage.specs.Step.{Stepped, written, not_mine, concerns, room_for}
use Rattle.carriage.specs.ReadOnce.{respond_to}
use Rattle.carriage.proofs.AnswerRoom.{most_room}
use Rattle.carriage.proofs.ReadOnce.{read_once}
use Rattle.chain.specs.declared.Pass.{Pass}
use Rattle.chain.specs.declared.Told.{Told}
use Rattle.chain.specs.Walk.{heeds, Taken, taken, Run, run, Walked, read_for_all, begun, told, unless}
use Rattle.chain.specs.Chain.{next_of, text_of, verdict_of, refusal, refusal_of, refused, responds, refuses, chain, Gives}
use Rattle.chain.proofs.Alone.{alone, text_short, quiet_next, quiet_text, aloud_text}
use Rattle.chain.proofs.Walks.{taken_obeyed, taken_idle}

-- ---- two texts, one behind the other, from a place k on
spliced : (b t v : List ℕ) (k : ℕ) → k + length t ≤ length b → {c : List ℕ} → c ≡ take k b ++ (t ++ drop (length t) (drop k b))
    → take (k + length t) c ++ (v ++ drop (k + length t + length v) c) ≡ take k b ++ ((t ++ v) ++ drop (k + length (t ++ v)) b)
spliced b t v k h {c} e =
    let front : List ℕ = take k b ++ t in
    let split : c ≡ front ++ drop (length t) (drop k b) = e ∙ sym (append_assoc (take k b) t (drop (length t) (drop k b))) in
    let long : length front ≡ k + length t = length-append (take k b) t ∙ ap (λ (n : ℕ). n + length t) (length-take-le k b (omega arith)) in
    let e₁ : take (k + length t) c ≡ front = ap (take (k + length t)) split ∙ take_at front (drop (length t) (drop k b))
    (k + length t) long in
    let e₂ : drop (k + length t) c ≡ drop (k + length t) b =
    ap (drop (k + length t)) split ∙ drop_at front (drop (length t) (drop k b)) (k + length t) long ∙ drop-drop (length t) k b in
    let e₃ : drop (k + length t + length v) c ≡ drop (k + length t + length v) b =
    sym (drop-drop (length v) (k + length t) c) ∙ ap (drop (length v)) e₂ ∙ drop-drop (length v) (k + length t) b in
    let n : k + length t + length v ≡ k + length (t ++ v) = add_assoc k (length t) (length v)
    ∙ ap (λ (m : ℕ). k + m) (sym (length-append t v)) in
    ap (λ (x : List ℕ). x ++ (v ++ drop (k + length t + length v) c)) e₁
    ∙ ap (λ (x : List ℕ). front ++ (v ++ x)) (e₃ ∙ ap (λ (m : ℕ). drop m b) n)
    ∙ append_assoc (take k b) t (v ++ drop (k + length (t ++ v)) b)
    ∙ ap (λ (x : List ℕ). take k b ++ x) (sym (append_assoc t v (drop (k + length (t ++ v)) b)))

-- ---- the walk, where what was read is the line
abbrev pub texts : List ℕ → List Device → List ℕ
texts l xs = joined (map (text_of l) xs)

record Ran (l : List ℕ) (xs : List Device) (p : Pass) (b : List ℕ) (r : Run) : Type 0 where
  read : r.pass.read ≡ p.read
  devices : r.devices ≡ map (next_of l) xs
  place : r.pass.place ≡ p.place + length (texts l xs)
  buffer : r.buffer ≡ take p.place b ++ (texts l xs ++ drop (p.place + length (texts l xs)) b)

module _ (l : List ℕ) where
  -- a turn of a good record, with room
  abbrev turned : Device → Pass → List ℕ → Taken
  turned d p b = record {
    device = next_of l d;
    pass = record { read = p.read; place = p.place + length (text_of l d) };
    buffer = take p.place b ++ (text_of l d ++ drop (length (text_of l d)) (drop p.place b));
  }

  module _ (d : Device) (p : Pass) (b : List ℕ) (is : p.read ≡ read_line l) (g : good d ≡ true)
      (h : p.place + room_for (read_line l) ≤ length b) where
    turned-aloud : heeds d p.read ≡ true → taken l d p b ≡ turned d p b
    unfolding written
    turned-aloud e =
        let room : room_for (read_line l) ≤ length (drop p.place b) = rw length-drop (omega arith) in
        taken_obeyed l d p b e
        ∙ ap (λ (s : Stepped). record {
          device = s.answer.next;
          pass = record { read = p.read; place = p.place + s.answer.length };
          buffer = take p.place b ++ s.buffer;
        }) (ap (λ (r : LineRead). respond_to d l r (drop p.place b)) is ∙ read_once d l (drop p.place b)
        ∙ alone d l (drop p.place b) room)

    turned-quiet : heeds d p.read ≡ false → taken l d p b ≡ turned d p b
    turned-quiet e =
        let h : heeds d (read_line l) ≡ false = rw (← is) e in
        taken_idle l d p b e
        ∙ sym (rw (quiet_next d l g h, quiet_text d l g h, add-zero p.place, take-append-drop p.place b))

    turned-is : taken l d p b ≡ turned d p b
    turned-is = go (heeds d p.read) refl
      where
        go : (t : Bool) → heeds d p.read ≡ t → taken l d p b ≡ turned d p b
        go true e = turned-aloud e
        go false e = turned-quiet e

  turned_room : (d : Device) (p : Pass) (b : List ℕ) → p.place + length (text_of l d) ≤ length b → length (turned d p b).buffer ≡ length b
  turned_room d p b fits =
      rw (length-append, length-append, length-drop, length-drop, length-take-le p.place b (omega (arith, fits))) (omega (arith, fits))

  ran : (xs : List Device) (p : Pass) (b : List ℕ) → p.read ≡ read_line l → all good xs ≡ true
      → p.place + room_for (read_line l) * length xs ≤ length b → Ran l xs p b (run l xs p b)
  unfolding run fold joined
  ran [] p b is g h = record {
    read = refl;
    devices = refl;
    place = sym (add-zero p.place);
    buffer = sym (rw add-zero (take-append-drop p.place b));
  }
  ran (d ∷ ds) p b is g h =
      let short : length (text_of l d) ≤ room_for (read_line l) = text_short d l in
      let fits : p.place + length (text_of l d) ≤ length b = omega (arith, short, h) in
      let ih = ran ds (turned d p b).pass (turned d p b).buffer is (and_right (good d) (all good ds) g)
      (omega (arith, short, h, turned_room d p b fits)) in
      subst⁻¹ (λ (t : Taken). Ran l (d ∷ ds) p b (record {
        devices = t.device ∷ (run l ds t.pass t.buffer).devices;
        pass = (run l ds t.pass t.buffer).pass;
        buffer = (run l ds t.pass t.buffer).buffer;
      }))
      (turned-is d p b is (and_left (good d) (all good ds) g) (omega arith))
      (record {
        read = ih.read;
        devices = ap {B = List Device} (λ ys. next_of l d ∷ ys) ih.devices;
        place = ih.place ∙ add_assoc p.place (length (text_of l d)) (length (texts l ds))
            ∙ ap (λ (m : ℕ). p.place + m) (sym (length-append (text_of l d) (texts l ds)));
        buffer = ih.buffer ∙ spliced b (text_of l d) (texts l ds) p.place fits refl;
      })

  -- a refusal is heeded by none
  unheeded : (xs : List Device) (u : RefusedAt) (k : ℕ) (b : List ℕ)
      → run l xs (record { read = Err u; place = k }) b ≡ record {
        devices = xs;
        pass = record { read = Err u; place = k };
        buffer = b;
      }
  unfolding run
  unheeded [] u k b = refl
  unheeded (d ∷ ds) u k b = rw (taken_idle l d (record { read = Err u; place = k }) b refl, unheeded ds u k b)

  -- ---- what it comes to: "5 if it concerns none, else 0"
  module _ (a k end : ℕ) (w : WordsRead) (is : read_line l ≡ Ok (sent a k end w)) where
    no_text : (xs : List Device) → all good xs ≡ true → eqb (length (texts l xs)) 0 ≡ all (λ d. not_mine d (Ok (sent a k end w))) xs
    unfolding fold joined
    no_text [] g = refl
    no_text (d ∷ ds) g = go (concerns d a) refl (no_text ds (and_right (good d) (all good ds) g))
      where
        one : good d ≡ true
        one = and_left (good d) (all good ds) g

        go : (t : Bool) → concerns d a ≡ t → eqb (length (texts l ds)) 0 ≡ all (λ d. not_mine d (Ok (sent a k end w))) ds
            → eqb (length (text_of l d ++ texts l ds)) 0 ≡ (not t && all (λ d. not_mine d (Ok (sent a k end w))) ds)
        go true e rest = ne_eqb (length (text_of l d ++ texts l ds)) 0
            (λ z. aloud_text d l one (Ok (sent a k end w)) is e (omega (arith, z, length-append (text_of l d) (texts l ds))))
        go false e rest = rw (quiet_text d l one (rw is e)) rest

  pub told_verdict : (xs : List Device) → all good xs ≡ true → (length xs ≡ 0 → ⊥) → (r : LineRead) → read_line l ≡ r
      → (told r (length (texts l xs))).verdict ≡ verdict_of l xs
  unfolding verdict_of first_of fold
  told_verdict xs g some (Ok x) e = rw (e, no_text x.address x.axis x.end x.words e xs g)
  told_verdict [] g some (Err u) e = absurd (some refl)
  told_verdict (d ∷ ds) g some (Err u) e = rw e

-- ---- what is told at the end
told_length : (r : LineRead) (k : ℕ) → (told r k).length ≡ k
told_length (Err e) k = refl
told_length (Ok x) k = refl

-- ---- the refusals, as the tests of the code have them
module _ (n room : ℕ) (g : Bool) where
  pub refused_long : 16 < n → Err NoRoom ≡ refusal n room g
  unfolding refusal first_of
  refused_long h = rw (lt-ltb 16 n h) (go (ltb room (96 * n)) (eqb n 0))
    where
      go : (t u : Bool) → ◌≡◌ {A = Verdict} (Err NoRoom) (cond t (Err NoRoom) (cond u (Err NoRoom) (Err NoRoom)))
      go true u = refl
      go false true = refl
      go false false = refl

  pub refused_none : n ≡ 0 → Err NoRoom ≡ refusal n room g
  unfolding refusal first_of
  refused_none h = rw (eq-eqb n 0 h) (go (ltb room (96 * n)))
    where
      go : (t : Bool) → ◌≡◌ {A = Verdict} (Err NoRoom) (cond t (Err NoRoom) (Err NoRoom))
      go true = refl
      go false = refl

  pub refused_small : room < 96 * n → Err NoRoom ≡ refusal n room g
  unfolding refusal first_of
  refused_small h = rw (lt-ltb room (96 * n) h)

  pub unless_bad : n ≤ 16 → (n ≡ 0 → ⊥) → 96 * n ≤ room → {t : Bool} → g ≡ t → cond t ACCEPTED (Err BadState) ≡ refusal n room g
  unfolding refusal first_of
  unless_bad few some large e = rw (le-ltb 16 n few, ne_eqb n 0 some, le-ltb room (96 * n) large, ← e) (go g)
    where
      go : (t : Bool) → ◌≡◌ {A = Verdict} (cond t ACCEPTED (Err BadState)) (cond (not t) (Err BadState) ACCEPTED)
      go true = refl
      go false = refl

-- the answers of so many records to what was read take no more than this
pub all_within : (n : ℕ) → n ≤ 16 → (r : LineRead) {k : ℕ} → k ≡ room_for r → k * n ≤ 18432
all_within n few r {k} is = mul-le-mul {n₁ = k} {m₁ = n} {n₂ = longest_answer} {m₂ = 16} (rw is (most_room r)) few

-- with what was read: a refusal of before goes first, and then there is room for every answer to it, or not
module _ (n room : ℕ) (g : Bool) (r : LineRead) where
  pub refused_early : (m : Refusal) → refusal n room g ≡ Err m → Err m ≡ refusal_of n room g r
  unfolding refusal_of first_of
  refused_early m h = rw h

  module _ (e : refusal n room g ≡ ACCEPTED) where
    pub refused_short : room < room_for r * n → Err NoRoom ≡ refusal_of n room g r
    unfolding refusal_of first_of
    refused_short h = rw (e, lt-ltb room (room_for r * n) h)

    pub refused_not : room_for r * n ≤ room → ACCEPTED ≡ refusal_of n room g r
    unfolding refusal_of first_of
    refused_not h = rw (e, le-ltb room (room_for r * n) h)

-- ---- no refusal
module _ (n room : ℕ) (g : Bool) (r : LineRead) (e : refusal_of n room g r ≡ ACCEPTED) where
  pub none_early : refusal n room g ≡ ACCEPTED
  unfolding refusal_of first_of
  none_early = go (refusal n room g) e
    where
      go : (v : Verdict) → cond (is_err v) v (cond (ltb room (room_for r * n)) (Err NoRoom) ACCEPTED) ≡ ACCEPTED → v ≡ ACCEPTED
      go (Ok u) h = refl
      go (Err m) h = h

  has_room : room_for r * n ≤ room
  unfolding refusal_of first_of
  has_room = ltb-false room (room_for r * n) (unmet NoRoom (ltb room (room_for r * n)) [] (rw none_early at e))

-- ---- none before the line is read
module _ (n room : ℕ) (g : Bool) (e : refusal n room g ≡ ACCEPTED) where
  pub some : n ≡ 0 → ⊥
  unfolding refusal
  some = eqb-false n 0 (unmet NoRoom (eqb n 0) _ (below NoRoom (ltb room (96 * n)) _ e))

  pub few : n ≤ 16
  unfolding refusal
  few = ltb-false 16 n (unmet NoRoom (ltb 16 n) _ (below NoRoom (eqb n 0) _ (below NoRoom (ltb room (96 * n)) _ e)))

  pub all_are : g ≡ true
  unfolding refusal
  all_are = not_false g (unmet BadState (not g) _ (below NoRoom (ltb 16 n) _ (below NoRoom (eqb n 0) _ (below NoRoom (ltb room (96 * n)) _ e))))

-- ---- the line is read, unless the chain is refused
module _ (n room : ℕ) (g : Bool) (l : List ℕ) {v : Verdict} (e : v ≡ refusal n room g) where
  pub reads_refused : (m : Refusal) → v ≡ Err m → Err (refusal_at m 255) ≡ read_for_all n room g l
  reads_refused m z = rw (← refused_early n room g (read_line l) m (sym e ∙ z))

  module _ (z : v ≡ ACCEPTED) {o : Result Opening RefusedAt} {r : LineRead} (p : o ≡ open_line l) (q : r ≡ read_on l o) where
    is_line : r ≡ read_line l
    is_line = q ∙ ap (read_on l) p ∙ opened_read l

    pub reads_short : {k : ℕ} → k ≡ room_for r * n → room < k → Err (refusal_at NoRoom 255) ≡ read_for_all n room g l
    reads_short is h =
        let short = refused_short n room g (read_line l) (sym e ∙ z) (rw (is, is_line) at h) in rw (← short)

    pub reads_all : {k : ℕ} → k ≡ room_for r * n → k ≤ room → r ≡ read_for_all n room g l
    reads_all is h =
        let all = refused_not n room g (read_line l) (sym e ∙ z) (rw (is, is_line) at h) in
        rw (← all) is_line

-- ---- the walk of `chain`, from its beginning on
module _ (xs : List Device) (l b : List ℕ) {g : Bool} {p : Pass} (e : g ≡ all good xs) (f : p ≡ begun (length xs) (length b) g l)
  where
    begins : p ≡ record { read = unless (refused xs l (length b)) (read_line l); place = 0 }
    begins = f ∙ ap (λ (t : Bool). begun (length xs) (length b) t l) e

    pub chained : {ys : List Device} {c : List ℕ} {q : Pass} {r : Told} → Walked l p xs ys b c q → r ≡ told q.read q.place
        → Gives (chain xs l (length b)) b r ys c
    unfolding chain joined fold
    chained {ys} {c} {q} {r} w k = go (refused xs l (length b)) refl
      where
        start : (v : Verdict) → refused xs l (length b) ≡ v → p ≡ record { read = unless v (read_line l); place = 0 }
        start v h = begins ∙ rw h

        go : (v : Verdict) → refused xs l (length b) ≡ v → Gives (cond (is_ok v) (responds l xs) (refuses v xs)) b r ys c
        go (Ok u) none =
            let z = none_early (length xs) (length b) (all good xs) (read_line l) none in
            let all-good = all_are (length xs) (length b) (all good xs) z in
            let is : p.read ≡ read_line l = ap (λ (x : Pass). x.read) (start ACCEPTED none) in
            let at : p.place ≡ 0 = ap (λ (x : Pass). x.place) (start ACCEPTED none) in
            let t = ran l xs p b is all-good (omega (arith, at, has_room (length xs) (length b) (all good xs) (read_line l) none)) in
            let read : q.read ≡ read_line l = ap (λ (x : Pass). x.read) w.pass ∙ t.read ∙ is in
            let long : q.place ≡ length (texts l xs) = ap (λ (x : Pass). x.place) w.pass ∙ t.place
            ∙ rw at (zero-add (length (texts l xs))) in
            let verdict = told_verdict l xs all-good (some (length xs) (length b) (all good xs) z) (read_line l) refl in
            record {
              result = k ∙ rw (read, long)
                  (ap (λ (v : Verdict). record { verdict = v; length = (told (read_line l) (length (texts l xs))).length }) verdict
                  ∙ ap (λ (n : ℕ). record { verdict = verdict_of l xs; length = n }) (told_length (read_line l) (length (texts l xs))));
              devices = w.devices ∙ t.devices;
              left = w.buffer ∙ t.buffer ∙ rw (at, zero-add);
            }
        go (Err n) h =
            let i = ap (λ (x : Pass). run l xs x b) (start (Err n) h) ∙ unheeded l xs (refusal_at n 255) 0 b in
            record {
              result = k ∙ ap (λ (x : Run). told x.pass.read x.pass.place)
                  (ap (λ (x : Pass). record { devices = xs; pass = x; buffer = b }) (w.pass ∙ ap (λ (x : Run). x.pass) i));
              devices = w.devices ∙ ap (λ (x : Run). x.devices) i;
              left = w.buffer ∙ ap (λ (x : Run). x.buffer) i;
            }
