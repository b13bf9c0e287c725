-- What a row and a setting demand, by what the row has to do with the setting.
-- Assumes nothing.
use mathlib.Core.Path.{◌≡◌, sym, ap}
use Rattle.command.specs.declared.forms.Form.{Form}
use Rattle.command.specs.declared.kinds.Use.{Use}
use Rattle.command.specs.declared.kinds.Kind.{Kind}
use Rattle.command.specs.Commands.{kind_at, demands_with, demands_of}

pub by_use : (f : Form) (k : Kind) (u : Use) → k ≡ kind_at f.row → k.uses ≡ u → demands_with u k f.setting ≡ demands_of f
by_use f k u e h = go (kind_at f.row) e h
  where
    go : (j : Kind) → k ≡ j → k.uses ≡ u → demands_with u k f.setting ≡ demands_with j.uses j f.setting
    go j e h = rw (sym e) (ap (λ (v : Use). demands_with v k f.setting) (sym h))
