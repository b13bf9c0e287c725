-- What the walk over the records does, record by record, and what is carried from one to the next.
-- The inner functions promise it; proofs/Chains.antt shows that it comes to what Chain.antt says.
use Rattle.std.specs.Prelude.{◌≡◌, Bool, false, cond, List, [], ◌∷◌, ◌++◌, ℕ, ◌+◌, ◌≤◌, eqb, length, take, drop, Ok, Err}
use Rattle.laws.specs.declared.Refusal.TheVariants.{NotMine}
use Rattle.laws.specs.Refusals.{NOWHERE, refusal_at, Verdict, ACCEPTED}
use Rattle.line.specs.Reading.{LineRead, read_line}
use Rattle.device.specs.declared.Device.{Device}
use Rattle.carriage.specs.Step.{Stepped, concerns}
use Rattle.carriage.specs.ReadOnce.{respond_to}
use Rattle.chain.specs.declared.Pass.{Pass}
use Rattle.chain.specs.declared.Turn.{Turn}
use Rattle.chain.specs.declared.Told.{Told}
use Rattle.chain.specs.Chain.{refusal_of}

-- ---- one record's turn

pub record Taken : Type 0 where
  pub device : Device
  pub pass : Pass
  pub buffer : List ℕ

-- "each record that the line concerns": by its address before the line
abbrev pub heeds : Device → LineRead → Bool
heeds d (Err e) = false
heeds d (Ok x) = concerns d x.address

-- what it answers in the rest of the buffer
abbrev pub responded : List ℕ → Device → Pass → List ℕ → Stepped
responded l d p b = respond_to d l p.read (drop p.place b)

abbrev pub obeyed : List ℕ → Device → Pass → List ℕ → Taken
obeyed l d p b = record {
  device = (responded l d p b).answer.next;
  pass = record { read = p.read; place = p.place + (responded l d p b).answer.length };
  buffer = take p.place b ++ (responded l d p b).buffer;
}

abbrev pub idle : Device → Pass → List ℕ → Taken
idle d p b = record { device = d; pass = p; buffer = b }

unfoldable pub taken : List ℕ → Device → Pass → List ℕ → Taken
taken l d p b = cond (heeds d p.read) (obeyed l d p b) (idle d p b)

-- the answers so far lie in the buffer
abbrev pub Fits : Pass → List ℕ → Type 0
Fits p b = p.place ≤ length b

-- a turn and a buffer that are just that
pub record Took (s : Taken) (c : List ℕ) (t : Turn) : Type 0 where
  pub device : t.device ≡ s.device
  pub pass : t.pass ≡ s.pass
  pub buffer : c ≡ s.buffer

-- ---- a walk over records

pub record Run : Type 0 where
  pub devices : List Device
  pub pass : Pass
  pub buffer : List ℕ

unfoldable pub run : List ℕ → List Device → Pass → List ℕ → Run
run l [] p b = record { devices = []; pass = p; buffer = b }
run l (d ∷ ds) p b =
    let t = taken l d p b in
    let r = run l ds t.pass t.buffer in record { devices = t.device ∷ r.devices; pass = r.pass; buffer = r.buffer }

pub record Walked (l : List ℕ) (p : Pass) (xs ys : List Device) (b c : List ℕ) (q : Pass) : Type 0 where
  pub devices : ys ≡ (run l xs p b).devices
  pub pass : q ≡ (run l xs p b).pass
  pub buffer : c ≡ (run l xs p b).buffer

-- ---- before the walk and after it

-- what is read of the line for the whole chain: nothing but the refusal, where the chain is refused
abbrev pub unless : Verdict → LineRead → LineRead
unless (Ok u) r = r
unless (Err n) r = Err (refusal_at n NOWHERE)

abbrev pub read_for_all : ℕ → ℕ → Bool → List ℕ → LineRead
read_for_all n room allGood l = unless (refusal_of n room allGood (read_line l)) (read_line l)

abbrev pub begun : ℕ → ℕ → Bool → List ℕ → Pass
begun n room allGood l = record { read = read_for_all n room allGood l; place = 0 }

abbrev pub told : LineRead → ℕ → Told
told (Err e) place = record { verdict = Err e.refusal; length = place }
told (Ok x) place = record { verdict = cond (eqb place 0) (Err NotMine) ACCEPTED; length = place }
