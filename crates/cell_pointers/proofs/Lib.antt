mod Wrapping
