-- 2026-01, the forms of a container's lengths: its bytes have them but once; in the fewest bytes no container with the same values is shorter, and no other
-- is as short. Assumes nothing.
use Prim.Native.Nat.{ℕ, ◌+◌, ◌<◌, ◌≤◌}
use mathlib.Core.Path.{◌≡◌, refl, sym, ap, ap₂, ◌∙◌}
use mathlib.Core.Option.{none, some}
use mathlib.Core.List.{List, [], ◌∷◌, ◌++◌, append_cancel_left}
use native.Mathlib.Omega.{arith}
use lib.ListN.{length, length-append}
use Rattle.laws.specs.Bytes.{Bytes}
use Rattle.dates.specs.Date.{IsDate}
use Rattle.lengths.specs.Length.{length_bytes}
use Rattle.lengths.proofs.Writing.{no-fewer}
use Rattle.lengths.proofs.Spellings.{apart, spells, fewest as fewest-bytes, as-few}
use Rattle.kinds.specs.Tables.{Table, table, IsKind}
use Rattle.container.specs.Container.{Values, Spellings, tag_bytes, spelled, outer_tag, Forms, container_in, fewest, encode, fewest_forms, container, Allowed, Formed, largest, Conforms}
use Rattle.container.proofs.Exact.{bytes-front, bytes_back, element-length}

-- ---- the bytes have them but once

module _ (today : ℕ) where
  one-rows : (rs : Table) (vs : Values) (ps qs : Spellings) → Allowed today rs vs → Formed vs ps → Formed vs qs → spelled rs vs ps ≡ spelled rs vs qs → ps ≡ qs
  one-rows rs [] [] [] a f g e = refl
  one-rows rs [] [] (q ∷ qs) a f g e = absurd g
  one-rows rs [] (p ∷ ps) qs a f g e = absurd f
  one-rows [] (o ∷ vs) ps qs a f g e = absurd a
  one-rows (r ∷ rs) (o ∷ vs) [] qs a f g e = absurd f
  one-rows (r ∷ rs) (o ∷ vs) (p ∷ ps) [] a f g e = absurd g
  one-rows (r ∷ rs) (none ∷ vs) (p ∷ ps) (q ∷ qs) a f g e =
      ap₂ (λ (x : List ℕ) (l : Spellings). x ∷ l) (f.0 ∙ sym g.0) (one-rows rs vs ps qs a.1 f.1 g.1 e)
  one-rows (r ∷ rs) (some v ∷ vs) (p ∷ ps) (q ∷ qs) a f g e =
      let x = v ++ spelled rs vs ps in
      let y = v ++ spelled rs vs qs in
      let d : p ++ x ≡ q ++ y = append_cancel_left (tag_bytes r.tag) (p ++ x) (q ++ y) e in
      let z : p ≡ q = (apart p q x y (length v) (length v) f.0 g.0 d).0 in
      let u : p ++ x ≡ p ++ y = d ∙ ap (λ (l : List ℕ). l ++ y) (sym z) in
      ap₂ (λ (x : List ℕ) (l : Spellings). x ∷ l) z (one-rows rs vs ps qs a.1 f.1 g.1 (append_cancel_left v (spelled rs vs ps) (spelled rs vs qs) (append_cancel_left p x y u)))

pub one-forms : (kind today : ℕ) (vs ws : Values) (c : List ℕ) → vs ≡ ws → (h : Conforms kind today vs c) (k : Conforms kind today ws c) → h.forms ≡ k.forms
one-forms kind today vs ws c e h k =
    let f = h.forms in
    let g = k.forms in
    let x = spelled (table kind) vs f.rows in
    let y = spelled (table kind) vs g.rows in
    let w : c ≡ container_in kind vs g = rw (← e) at k.written in
    let d : f.outer ++ x ≡ g.outer ++ y = append_cancel_left (outer_tag kind ∷ []) (f.outer ++ x) (g.outer ++ y) (sym h.written ∙ w) in
    let z : f.outer ≡ g.outer = (apart f.outer g.outer x y (length x) (length y) h.outer_formed (rw (← e) at k.outer_formed) d).0 in
    let u : f.outer ++ x ≡ f.outer ++ y = d ∙ ap (λ (l : List ℕ). l ++ y) (sym z) in
    ap₂ (λ (o : List ℕ) (l : Spellings). record { outer = o; rows = l }) z
    (one-rows today (table kind) vs f.rows g.rows h.allowed h.rows_formed (rw (← e) at k.rows_formed) (append_cancel_left f.outer x y u))

-- ---- the fewest bytes

module _ (today : ℕ) where
  fewest-formed : (rs : Table) (vs : Values) → Allowed today rs vs → length (encode rs vs) < 65536 → Formed vs (fewest vs)
  fewest-formed [] [] a h = tt
  fewest-formed [] (o ∷ vs) a h = absurd a
  fewest-formed (r ∷ rs) [] a h = absurd a
  fewest-formed (r ∷ rs) (none ∷ vs) a h = (refl, fewest-formed rs vs a.1 h)
  fewest-formed (r ∷ rs) (some v ∷ vs) a h =
      let l = element-length r.tag (length_bytes (length v)) v (encode rs vs) in
      (spells (length v) (omega (arith, l)), fewest-formed rs vs a.1 (omega (arith, l)))

  no_longer : (rs : Table) (vs : Values) (ps : Spellings) → Allowed today rs vs → Formed vs ps → length (encode rs vs) ≤ length (spelled rs vs ps)
  no_longer [] [] ps a f = omega arith
  no_longer [] (o ∷ vs) ps a f = absurd a
  no_longer (r ∷ rs) [] ps a f = absurd a
  no_longer (r ∷ rs) (o ∷ vs) [] a f = absurd f
  no_longer (r ∷ rs) (none ∷ vs) (p ∷ ps) a f = no_longer rs vs ps a.1 f.1
  no_longer (r ∷ rs) (some v ∷ vs) (p ∷ ps) a f =
      let n = no_longer rs vs ps a.1 f.1 in
      omega (arith, n, fewest-bytes p (length v) f.0, element-length r.tag (length_bytes (length v)) v (encode rs vs), element-length r.tag p v (spelled rs vs ps))

  as_short : (rs : Table) (vs : Values) (ps : Spellings) → Allowed today rs vs → Formed vs ps → length (encode rs vs) < 65536 → length (spelled rs vs ps) ≤ length (encode rs vs)
      → ps ≡ fewest vs
  as_short rs [] [] a f h l = refl
  as_short rs [] (p ∷ ps) a f h l = absurd f
  as_short [] (o ∷ vs) ps a f h l = absurd a
  as_short (r ∷ rs) (o ∷ vs) [] a f h l = absurd f
  as_short (r ∷ rs) (none ∷ vs) (p ∷ ps) a f h l = ap₂ (λ (x : List ℕ) (l : Spellings). x ∷ l) f.0 (as_short rs vs ps a.1 f.1 h l)
  as_short (r ∷ rs) (some v ∷ vs) (p ∷ ps) a f h l =
      let m = element-length r.tag (length_bytes (length v)) v (encode rs vs) in
      let n = element-length r.tag p v (spelled rs vs ps) in
      let j = no_longer rs vs ps a.1 f.1 in
      let k = fewest-bytes p (length v) f.0 in
      ap₂ (λ (x : List ℕ) (l : Spellings). x ∷ l) (as-few p (length v) (omega (arith, m)) f.0 (omega (arith, m, n, j)))
      (as_short rs vs ps a.1 f.1 (omega (arith, m)) (omega (arith, m, n, k)))

-- ---- the values of a container of bytes are of bytes

abbrev pub AllBytes : Values → Type 0
AllBytes [] = Unit {0}
AllBytes (none ∷ vs) = AllBytes vs
AllBytes (some v ∷ vs) = Bytes v × AllBytes vs

values-bytes : (today : ℕ) (rs : Table) (vs : Values) (ps : Spellings) → Allowed today rs vs → Formed vs ps → Bytes (spelled rs vs ps) → AllBytes vs
values-bytes today [] [] ps a f b = tt
values-bytes today [] (o ∷ vs) ps a f b = absurd a
values-bytes today (r ∷ rs) [] ps a f b = absurd a
values-bytes today (r ∷ rs) (o ∷ vs) [] a f b = absurd f
values-bytes today (r ∷ rs) (none ∷ vs) (p ∷ ps) a f b = values-bytes today rs vs ps a.1 f.1 b
values-bytes today (r ∷ rs) (some v ∷ vs) (p ∷ ps) a f b =
    let rest = spelled rs vs ps in
    let c : Bytes (v ++ rest) = bytes_back p (v ++ rest) (bytes_back (tag_bytes r.tag) (p ++ (v ++ rest)) b) in
    (bytes-front v rest c, values-bytes today rs vs ps a.1 f.1 (bytes_back v rest c))

pub conforming-bytes : (kind today : ℕ) (vs : Values) (c : List ℕ) → Conforms kind today vs c → Bytes c → AllBytes vs
conforming-bytes kind today vs c h b =
    let bc : Bytes (container_in kind vs h.forms) = rw h.written at b in
    values-bytes today (table kind) vs h.forms.rows h.allowed h.rows_formed (bytes_back h.forms.outer (spelled (table kind) vs h.forms.rows) bc.1)

-- ---- of a container

module _ (kind today : ℕ) (vs : Values) where
  -- its elements in the fewest bytes
  abbrev least : List ℕ
  least = encode (table kind) vs

  -- how long it is
  whole : (fs : Forms) → length (container_in kind vs fs) ≡ 1 + length fs.outer + length (spelled (table kind) vs fs.rows)
  whole fs = omega (arith, length-append fs.outer (spelled (table kind) vs fs.rows))

  pub written-conforms : IsKind kind → IsDate today → Allowed today (table kind) vs → length (container kind vs) ≤ largest → Conforms kind today vs (container kind vs)
  written-conforms k d a l =
      let m = length-append (length_bytes (length least)) least in
      record {
        kind_is = k;
        date_is = d;
        size_is = l;
        allowed = a;
        forms = fewest_forms kind vs;
        rows_formed = fewest-formed today (table kind) vs a (omega (arith, m));
        outer_formed = spells (length least) (omega (arith, m));
        written = refl;
      }

  module _ (c : List ℕ) (h : Conforms kind today vs c) where
    abbrev body : List ℕ
    body = spelled (table kind) vs h.forms.rows

    rows-no-longer : length least ≤ length body
    rows-no-longer = no_longer today (table kind) vs h.forms.rows h.allowed h.rows_formed

    sizes : (length c ≡ 1 + length h.forms.outer + length body) × (length (container kind vs) ≡ 1 + length (length_bytes (length least)) + length least)
    sizes = (ap length h.written ∙ whole h.forms, omega (arith, length-append (length_bytes (length least)) least))

    outer-no-longer : length (length_bytes (length least)) ≤ length h.forms.outer
    outer-no-longer = omega (arith, no-fewer (length least) (length body) rows-no-longer, fewest-bytes h.forms.outer (length body) h.outer_formed)

    -- it is never longer in the fewest bytes
    pub never-longer : length (container kind vs) ≤ length c
    never-longer = omega (arith, sizes.0, sizes.1, rows-no-longer, outer-no-longer)

    pub fewest-conforms : Conforms kind today vs (container kind vs)
    fewest-conforms = written-conforms h.kind_is h.date_is h.allowed (omega (arith, never-longer, h.size_is))

    -- and one that is not longer is that one
    pub only-fewest : length c ≤ length (container kind vs) → c ≡ container kind vs
    only-fewest l =
        let n : length body ≡ length least = omega (arith, l, sizes.0, sizes.1, rows-no-longer, outer-no-longer) in
        let s : length least < 65536 = omega (arith, sizes.0, h.size_is, n) in
        let r : h.forms.rows ≡ fewest vs = as_short today (table kind) vs h.forms.rows h.allowed h.rows_formed s (omega (arith, n)) in
        let o : h.forms.outer ≡ length_bytes (length least) =
        as-few h.forms.outer (length least) s (rw n at h.outer_formed) (omega (arith, l, sizes.0, sizes.1, rows-no-longer)) in
        h.written ∙ ap₂ (λ (o : List ℕ) (l : Spellings). container_in kind vs (record { outer = o; rows = l })) o r
