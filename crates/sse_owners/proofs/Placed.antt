-- One of several servers is another.
use Rattle.std.proofs.Common.{◌≡◌, ℕ, ◌<◌, List, length, get_or, slice_set, sym, ap, ◌∙◌, arith}
use Rattle.std.specs.Prelude.{map}
use Rattle.std.proofs.lemmas.List.{get_or-map, get_or-set_same, length-set, map-set}
use Rattle.std.proofs.Math.Seq.{map-set_same}

module _ {X Y : Type 0} (V : X → Y) (old : List X) (place : ℕ) (one next : X) (d : Y) (within : place < length old) where
  pub was : get_or (map V old) place d ≡ V (get_or old place one)
  was = get_or-map V old place one d within

  pub now : get_or (map V (slice_set old place next)) place d ≡ V next
  now = get_or-map V (slice_set old place next) place next d (let size : length (slice_set old place next) ≡ length old = length-set old place next in omega (arith, within, size)) ∙ ap V (get_or-set_same old place next next within)

  pub all : map V (slice_set old place next) ≡ slice_set (map V old) place (get_or (map V (slice_set old place next)) place d)
  all = map-set V old place next ∙ ap (slice_set (map V old) place) (sym now)

  -- it isn't another, as it is seen
  pub same : V next ≡ V (get_or old place one) → map V (slice_set old place next) ≡ map V old
  same is = map-set_same V old place next one is
