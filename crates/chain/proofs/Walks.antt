-- Laws of a turn and of a walk over records: how the records, the place and the buffer stand after i turns.
-- Assumes nothing.
use mathlib.Core.Path.{◌≡◌, refl, sym, ap, ◌∙◌}
use mathlib.Core.Bool.{Bool, true, false, cond}
use mathlib.Core.List.{List, [], ◌∷◌, ◌++◌}
use Prim.Native.Nat.{ℕ, suc, ◌+◌, ◌-◌, ◌<◌, ◌≤◌}
use native.Mathlib.Omega.{arith}
use native.Mathlib.Numerals.{add-one}
use lib.ListN.{length, take, drop, get_or, set, length-append, length-drop, take-append-drop}
use lib.Seq.{take-suc, drop-cons, length-take-le, set_at, append_snoc, get_or_at}
use Rattle.laws.proofs.Lists.{rest}
use Rattle.line.specs.Reading.{LineRead}
use Rattle.device.specs.declared.Device.{Device}
use Rattle.carriage.specs.declared.Answer.{Answer}
use Rattle.carriage.specs.Step.{Gives}
use Rattle.carriage.specs.ReadOnce.{respond_to}
use Rattle.carriage.proofs.Room.{once_behind, once_fits}
use Rattle.chain.specs.declared.Pass.{Pass}
use Rattle.chain.specs.declared.Turn.{Turn}
use Rattle.chain.specs.Walk.{heeds, responded, Taken, obeyed, idle, taken, Fits, Took, Run, run}

-- ---- one turn
module _ (l : List ℕ) (d : Device) (p : Pass) (b : List ℕ) where
  pub taken_obeyed : heeds d p.read ≡ true → taken l d p b ≡ obeyed l d p b
  unfolding taken
  taken_obeyed e = simp e

  pub taken_idle : heeds d p.read ≡ false → taken l d p b ≡ idle d p b
  unfolding taken
  taken_idle e = simp e

-- an answer leaves the buffer as long as it was
respond_length : (d : Device) (l : List ℕ) (r : LineRead) (b : List ℕ) → length (respond_to d l r b).buffer ≡ length b
respond_length d l r b =
    let k = once_behind d l b r in
    let h : length k.text ≤ length b = omega (arith, once_fits d l b r, k.long) in
    rw (k.left, length-append, length-drop) (omega arith)

-- and so does a turn, whose answer lies in the buffer
pub taken_length : (l : List ℕ) (d : Device) (p : Pass) (b : List ℕ) → length (taken l d p b).buffer ≡ length b
unfolding taken
taken_length l d p b = go (heeds d p.read)
  where
    go : (t : Bool) → length (cond t (obeyed l d p b) (idle d p b)).buffer ≡ length b
    go false = refl
    go true =
        length-append (take p.place b) (responded l d p b).buffer
        ∙ ap (λ (n : ℕ). length (take p.place b) + n) (respond_length d l p.read (drop p.place b))
        ∙ sym (length-append (take p.place b) (drop p.place b)) ∙ ap length (take-append-drop p.place b)

taken_fits : (l : List ℕ) (d : Device) (p : Pass) (b : List ℕ) → Fits p b → Fits (taken l d p b).pass b
unfolding taken
taken_fits l d p b h = go (heeds d p.read)
  where
    go : (t : Bool) → Fits (cond t (obeyed l d p b) (idle d p b)).pass b
    go false = h
    go true = omega (arith, h, once_fits d l (drop p.place b) p.read, length-drop p.place b)

module _ (l : List ℕ) (d : Device) (r : LineRead) (k : ℕ) (b : List ℕ) {a : Answer} {c : List ℕ}
    (g : Gives (respond_to d l r (take (length b - k) (drop k b))) a c) where
  pub answer_fits : k ≤ length b → k + a.length ≤ length b
  answer_fits h = rw (g.result, rest k b) (omega (arith, h, once_fits d l (drop k b) r, length-drop k b))

-- ---- a walk
-- a record more at the end
run_more : (l : List ℕ) (ds : List Device) (d : Device) (p : Pass) (b : List ℕ)
    → run l (ds ++ (d ∷ [])) p b
    ≡ record {
      devices = (run l ds p b).devices ++ ((taken l d (run l ds p b).pass (run l ds p b).buffer).device ∷ []);
      pass = (taken l d (run l ds p b).pass (run l ds p b).buffer).pass;
      buffer = (taken l d (run l ds p b).pass (run l ds p b).buffer).buffer;
    }
unfolding run
run_more l [] d p b = refl
run_more l (x ∷ ds) d p b = rw (run_more l ds d (taken l x p b).pass (taken l x p b).buffer)

pub run_length : (l : List ℕ) (ds : List Device) (p : Pass) (b : List ℕ) → length (run l ds p b).devices ≡ length ds
unfolding run
run_length l [] p b = refl
run_length l (d ∷ ds) p b = ap suc (run_length l ds (taken l d p b).pass (taken l d p b).buffer)

pub run_room : (l : List ℕ) (ds : List Device) (p : Pass) (b : List ℕ) → length (run l ds p b).buffer ≡ length b
unfolding run
run_room l [] p b = refl
run_room l (d ∷ ds) p b = run_room l ds (taken l d p b).pass (taken l d p b).buffer ∙ taken_length l d p b

pub run_fits : (l : List ℕ) (ds : List Device) (p : Pass) (b : List ℕ) → Fits p b → Fits (run l ds p b).pass (run l ds p b).buffer
unfolding run
run_fits l [] p b h = h
run_fits l (d ∷ ds) p b h =
    run_fits l ds (taken l d p b).pass (taken l d p b).buffer (omega (arith, taken_fits l d p b h, taken_length l d p b))

module _ (l : List ℕ) (p : Pass) (b : List ℕ) (xs : List Device) where
  -- after the first i records
  abbrev pub run_to : ℕ → Run
  run_to i = run l (take i xs) p b

  abbrev pub halfway : ℕ → List Device
  halfway i = (run_to i).devices ++ drop i xs

  before : (i : ℕ) → i ≤ length xs → length (run_to i).devices ≡ i
  before i h = run_length l (take i xs) p b ∙ length-take-le i xs h

  halfway_here : (i : ℕ) (d : Device) → i < length xs → get_or (halfway i) i d ≡ get_or xs i d
  halfway_here i d h = rw (drop-cons xs i d h) (get_or_at (run_to i).devices (get_or xs i d) (drop (suc i) xs) d i (before i (omega arith)))

  -- a turn after i turns
  module _ (i : ℕ) (d : Device) (h : i < length xs) where
    abbrev now-taken : Taken
    now-taken = taken l (get_or (halfway i) i d) (run_to i).pass (run_to i).buffer

    to-next : run_to (i + 1) ≡ record {
      devices = (run_to i).devices ++ (now-taken.device ∷ []);
      pass = now-taken.pass;
      buffer = now-taken.buffer;
    }
    to-next = rw (add-one, take-suc xs i d h, halfway_here i d h) (run_more l (take i xs) (get_or xs i d) p b)

    pub pass_next : now-taken.pass ≡ (run_to (i + 1)).pass
    pass_next = sym (ap (λ (r : Run). r.pass) to-next)

    pub buffer_next : now-taken.buffer ≡ (run_to (i + 1)).buffer
    buffer_next = sym (ap (λ (r : Run). r.buffer) to-next)

    pub halfway_next : set (halfway i) i now-taken.device ≡ halfway (i + 1)
    halfway_next =
        ap (λ (z : List Device). set ((run_to i).devices ++ z) i now-taken.device) (drop-cons xs i d h)
        ∙ set_at (run_to i).devices (get_or xs i d) (drop (suc i) xs) now-taken.device i (before i (omega arith))
        ∙ sym (append_snoc (run_to i).devices now-taken.device (drop (suc i) xs))
        ∙ ap (λ (r : Run). r.devices ++ drop (suc i) xs) (sym to-next)
        ∙ ap (λ (k : ℕ). (run_to (i + 1)).devices ++ drop k xs) (sym (add-one i))

    -- one that does not heed the line
    module _ (quiet : heeds (get_or (halfway i) i d) (run_to i).pass.read ≡ false) where
      stays : now-taken ≡ idle (get_or (halfway i) i d) (run_to i).pass (run_to i).buffer
      stays = taken_idle l (get_or (halfway i) i d) (run_to i).pass (run_to i).buffer quiet

      pub idle_next : set (halfway i) i (get_or (halfway i) i d) ≡ halfway (i + 1)
      idle_next = ap (λ (t : Taken). set (halfway i) i t.device) (sym stays) ∙ halfway_next

      pub idle_pass : (run_to i).pass ≡ (run_to (i + 1)).pass
      idle_pass = ap (λ (t : Taken). t.pass) (sym stays) ∙ pass_next

      pub idle_buffer : (run_to i).buffer ≡ (run_to (i + 1)).buffer
      idle_buffer = ap (λ (t : Taken). t.buffer) (sym stays) ∙ buffer_next

    -- the turn as the code takes it: of records, a pass and a buffer that stand as after i turns
    module _ {ds : List Device} {q : Pass} {c : List ℕ} (e : ds ≡ halfway i) (f : q ≡ (run_to i).pass) (g : c ≡ (run_to i).buffer) where
      here : taken l (get_or ds i d) q c ≡ now-taken
      here = rw (e, f, g)

      pub heeded : {es : List Device} {r : Pass} {k : List ℕ} {t : Turn} {a : List ℕ} → heeds (get_or ds i d) q.read ≡ true → Took (obeyed l (get_or ds i d) q c) a t
          → es ≡ set ds i t.device → r ≡ t.pass → k ≡ a
          → (es ≡ halfway (i + 1)) × ((r ≡ (run_to (i + 1)).pass) × (k ≡ (run_to (i + 1)).buffer))
      heeded {t = t} {a = a} heard w x y z =
          let same : obeyed l (get_or ds i d) q c ≡ now-taken = sym (taken_obeyed l (get_or ds i d) q c heard) ∙ here in
          let device : t.device ≡ now-taken.device = w.device ∙ ap (λ (s : Taken). s.device) same in
          let pass : t.pass ≡ now-taken.pass = w.pass ∙ ap (λ (s : Taken). s.pass) same in
          let buffer : a ≡ now-taken.buffer = w.buffer ∙ ap (λ (s : Taken). s.buffer) same in (
            x ∙ ap (λ (v : Device). set ds i v) device ∙ ap (λ (v : List Device). set v i now-taken.device) e ∙ halfway_next,
            (y ∙ pass ∙ pass_next, z ∙ buffer ∙ buffer_next),
          )

      pub unmoved : {es : List Device} {r : Pass} {k : List ℕ} → heeds (get_or ds i d) q.read ≡ false
          → es ≡ set ds i (get_or ds i d) → r ≡ q → k ≡ c
          → (es ≡ halfway (i + 1)) × ((r ≡ (run_to (i + 1)).pass) × (k ≡ (run_to (i + 1)).buffer))
      unmoved deaf x y z =
          let quiet : heeds (get_or (halfway i) i d) (run_to i).pass.read ≡ false =
          sym (ap (λ (v : List Device). heeds (get_or v i d) q.read) e
          ∙ ap (λ (v : Pass). heeds (get_or (halfway i) i d) v.read) f) ∙ deaf in
          (x ∙ ap (λ (v : List Device). set v i (get_or v i d)) e ∙ idle_next quiet, (y ∙ f ∙ idle_pass quiet, z ∙ g ∙ idle_buffer quiet))
