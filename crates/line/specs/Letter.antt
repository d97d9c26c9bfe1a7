-- A line outside storing by its letter: setting axes has none, and a wrong shape is no line.

pub data Letter : Type 0 where
  Wrong : Letter
  Axes : Letter
  Relative : Letter
  Absolute : Letter
  Origin : Letter
  Zero : Letter
  Three : Letter
  Position : Letter
  Input : Letter
  Output : Letter
  Store : Letter
  Empty : Letter
  Start : Letter
  Plane : Letter
  Direction : Letter
  Circle : Letter
