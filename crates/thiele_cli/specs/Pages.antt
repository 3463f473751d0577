-- What the program tells of itself.
use Rattle.std.specs.Prelude.{ℕ, List, ◌++◌, codes}
use Rattle.thiele_cli.specs.declared.page.Page.{Page}
use Rattle.thiele_cli.specs.declared.page.Page.TheVariants as page

-- the words of all commands, a line for each kind
abbrev pub help_text : List ℕ
help_text =
    codes "files: upgrade FILE, join A B, shift FILE RATE, multiply FILE FROM TO FACTOR, charge FILE AMOUNT\n"
    ++ codes "limits: check FILE\n"
    ++ codes "values: value FILE, reserves FILE EVERY, occupancy FILE EVERY, moments FILE EVERY, premium FILE\n"
    ++ codes "seeds: generate SEED, load SEED\n"
    ++ codes "judgements: compare A B EVERY, audit FILE CSV EPS\n"
    ++ codes "groups: portfolio CSV, merge CSV\n"
    ++ codes "rows of values, judgements and groups: csv COMMAND .., json COMMAND ..\n"
    ++ codes "refusals: explain COMMAND ..\n"
    ++ codes "pages: help, version\n"

-- the program and the kit that proved and built it
abbrev pub version_text : List ℕ
version_text = codes "thiele_cli 1.0 rattle-kit-13f\n"

-- the text of a page
abbrev pub page_text : Page → List ℕ
page_text page.Help = help_text
page_text page.Version = version_text
