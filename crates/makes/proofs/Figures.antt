-- The figures worked by hand, by computation.
use Rattle.std.proofs.Common.{refl}
use Rattle.makes.specs.Figures.{Figures}

pub figures : Figures
figures = record {
  product_193 = refl;
  product_194 = refl;
  power_193 = refl;
  power_194 = refl;
  negative_193 = refl;
  negative_194 = refl;
  full_sum = refl;
  full_flag = refl;
  less_sum = refl;
  less_flag = refl;
  lowest = refl;
  minus_one = refl;
  under_sum = refl;
  under_flag = refl;
  full_count = refl;
  count_flag = refl;
  less_count = refl;
  no_count_flag = refl;
}
