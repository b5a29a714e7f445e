-- `opens::put_open` meets its contract: an arm for each kind. Assumes nothing.
use mathlib.Core.Path.{ap}
use native.Mathlib.Omega.{arith}
use Rattle.laws.specs.Bytes.{Bytes}
use Rattle.laws.proofs.Bases.{below_of}
use Rattle.laws.proofs.Rooms.{same_text}
use Rattle.opens.specs.Open.{open_part}
use Rattle.opens.proofs.Openings.{other_kind, nothing-open}
use Rattle.opens.proofs.Opens.{card-open, policy-open, issuer-open, six_or_seven, twelve}
use Rattle.opens.proofs.put_open.Goals as goal
use Rattle.opens.proofs.put_open.Goals.{Start, in-12-1, in_default+else-kind-lt6+then-kind-lt8, in_default-via-then-kind-lt6, in_default-via-else-kind-lt6+else-kind-lt8}

bytes : (c : Start) → Bytes c.args.rows.bytes.now
bytes c = below_of 256 c.args.rows.bytes.now c.args.rows.are_bytes

pub returns-in-1 : goal.returns-in-1
unfolding open_part
returns-in-1 c = rw c.in-1.is c.put_all.ensures

pub returns-in-2 : goal.returns-in-2
returns-in-2 c =
    let k = c.in-2.is in
    let m = c.args in
    rw k (same_text (ap open_part (card-open m.rows.spans m.rows.bytes.now c.requires.0 (rw k at (c.requires.1)))) (rw (c.part.ensures.result_value, c.part-in-2.ensures.result_value) at c.put_chuid.ensures))

pub returns-in-3 : goal.returns-in-3
returns-in-3 c =
    let m = c.args in
    rw c.in-3.is (same_text (ap open_part (policy-open m.rows.spans m.rows.bytes.now)) (rw c.part-in-3.ensures.result_value at c.put_policy.ensures))

pub returns-in-4 : goal.returns-in-4
returns-in-4 c =
    let m = c.args in
    rw c.in-4.is (same_text (ap open_part (issuer-open m.rows.spans m.rows.bytes.now)) (rw c.part-in-4.ensures.result_value at c.put_issuer.ensures))

pub returns-in-6 : goal.returns-in-6
returns-in-6 c =
    let m = c.args in
    let b = bytes (goal.at.returns-in-6 c).Start in
    let a = c.requires.1 in
    let t = rw c.part-in-6.ensures.result_value at c.put_biometric.ensures in
    elim c.in-6-1.branch [
      | in-12-1 w ↦ same_text (ap open_part (twelve m.rows.spans m.rows.bytes.now b c.requires.0 m.kind (omega arith) a)) t
      | in_default+else-kind-lt6+then-kind-lt8 w ↦ same_text (ap open_part (six_or_seven m.rows.spans m.rows.bytes.now b c.requires.0 m.kind (omega arith) (omega arith) a)) t
    ]

pub returns-in_default : goal.returns-in_default
unfolding open_part
returns-in_default c =
    let k = c.args.kind in
    elim c.in_default.branch [
      | in_default-via-then-kind-lt6 w ↦
          rw (← nothing-open k (other_kind k (λ e. omega arith) (λ e. omega arith) (λ e. omega arith) (λ e. omega arith) (λ e. omega arith) (λ e. omega arith) (λ e. omega arith))) c.put_all-in_default.ensures
      | in_default-via-else-kind-lt6+else-kind-lt8 w ↦
          rw (← nothing-open k (other_kind k (λ e. omega arith) (λ e. omega arith) (λ e. omega arith) (λ e. omega arith) (λ e. omega arith) (λ e. omega arith) (λ e. omega arith))) c.put_all-in_default.ensures
    ]
